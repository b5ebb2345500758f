-- The phases of the sample: a table, blocks of rows, and three queries.
use Rattle.std.specs.Prelude.{◌≡◌, ℕ, zero, suc, ◌+◌, ◌-◌, ◌<◌, Bool, true, false, All, List, [], ◌∷◌, ◌++◌, length, codes, Some, None}
use Rattle.std.specs.declared.option.Option.{Option}
use Rattle.std.specs.Fmt.{decimal}
use Rattle.tl_csv.specs.Sample.{Sample, block_end, block_of}
use Rattle.tl_script.specs.Script.{Job, ScriptReading}
use Rattle.tl_command.specs.Coming.{Coming}

-- a block, where there is one, and what comes behind it
abbrev pub before_blocks : Option (List ℕ) → List (List ℕ) → List (List ℕ)
before_blocks None blocks = []
before_blocks (Some block) blocks = block ∷ blocks

-- the next blocks of a sample, at most so many
abbrev pub next_blocks : ℕ → Sample → List (List ℕ)
next_blocks zero sample = []
next_blocks (suc n) sample =
    before_blocks (block_of sample) (next_blocks n (record sample { given = block_end sample }))

-- all blocks of a sample of so many lines, each of which has one line or more
abbrev pub blocks_of : ℕ → ℕ → List (List ℕ)
blocks_of lines start = next_blocks lines (record { lines = lines; start = start; given = 0 })

-- a job of the one session; its jobs are numbered from 1, as lines of a script are
abbrev pub job_with : ℕ → List ℕ → Option (List ℕ) → Job
job_with number text block = record { session = 0; line = number; text = text; block = block }

-- a phase of one job
abbrev pub phase_with : ℕ → List ℕ → Option (List ℕ) → List Job
phase_with number text block = job_with number text block ∷ []

-- the blocks are put, one after the other, each in a phase of its own
abbrev pub puts_from : ℕ → List (List ℕ) → List (List Job)
puts_from number [] = []
puts_from number (block ∷ blocks) =
    phase_with number (codes "PUT sample") (Some block) ∷ puts_from (number + 1) blocks

-- the query for the sums of the groups at the last version
abbrev pub sum_text : ℕ → List ℕ
sum_text last =
    codes "SUM val FROM sample BY grp OVER SYSTEM "
    ++ (decimal last ++ (codes " TO " ++ decimal (last + 1)))

-- what is asked for: the least and the greatest value at each version, and the sums of the groups
-- at the last
abbrev pub queries_from : ℕ → ℕ → List Job
queries_from number last =
    job_with number (codes "MIN val FROM sample OVER SYSTEM ALL") None
    ∷ job_with (number + 1) (codes "MAX val FROM sample OVER SYSTEM ALL") None
    ∷ job_with (number + 2) (sum_text last) None
    ∷ []

-- all phases that use these blocks
abbrev pub phases_with : List (List ℕ) → List (List Job)
phases_with blocks =
    phase_with 1 (codes "CREATE TABLE sample (id INT, grp INT, val INT) KEY id") None
    ∷ (puts_from 2 blocks ++ queries_from (length blocks + 2) (length blocks + 1) ∷ [])

-- a sample of these blocks, as a script of the session `sample`
abbrev pub reading_with : List (List ℕ) → ScriptReading
reading_with blocks =
    record { names = codes "sample" ∷ []; phases = phases_with blocks; fault = None }

-- a sample of so many lines, whose generator begins with a number
abbrev pub sample_reading : ℕ → ℕ → ScriptReading
sample_reading lines start = reading_with (blocks_of lines start)

-- PHASE BY PHASE

-- a sample whose phases are given one by one: its blocks, how many phases were given, and whether
-- the queries were
pub record SampleState : Type 0 where
  pub sample : Sample
  pub given : ℕ
  pub asked : Bool

-- the blocks that are left
abbrev pub blocks_left : Sample → List (List ℕ)
blocks_left sample = next_blocks (sample.lines - sample.given) sample

-- these blocks are put, and then the queries asked, behind so many phases
abbrev pub rows_from : ℕ → List (List ℕ) → List (List Job)
rows_from given blocks =
    puts_from (given + 1) blocks
    ++ queries_from (length blocks + given + 1) (length blocks + given) ∷ []

-- the phases that are left behind so many
abbrev pub left_behind : ℕ → Sample → List (List Job)
left_behind zero sample =
    phase_with 1 (codes "CREATE TABLE sample (id INT, grp INT, val INT) KEY id") None
    ∷ rows_from 1 (blocks_left sample)
left_behind (suc n) sample = rows_from (suc n) (blocks_left sample)

-- none is left once the queries were given
abbrev pub left_of : Bool → ℕ → Sample → List (List Job)
left_of true given sample = []
left_of false given sample = left_behind given sample

-- the phases that are left
abbrev pub phases_left : SampleState → List (List Job)
phases_left state = left_of state.asked state.given state.sample

-- the name of the session
abbrev pub sample_names : List (List ℕ)
sample_names = codes "sample" ∷ []

-- what may still come of a sample, whatever a source gives
abbrev pub sample_coming : SampleState → Coming
sample_coming state =
    record {
      reads = λ whole more. record {
        names = sample_names;
        phases = phases_left state;
        fault = None;
      };
      at_end = false;
      live = true;
      names = sample_names;
      most = 1;
    }

-- the next phase was given, whose jobs are of the one session
pub record GivesNext (old : SampleState) (jobs : List Job) (new : SampleState) : Type 0 where
  pub next : phases_left old ≡ jobs ∷ phases_left new
  pub alone : All (λ job. job.session < 1) jobs
