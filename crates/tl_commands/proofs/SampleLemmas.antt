-- The blocks and the phases of the sample.
use Rattle.std.proofs.Common.{◌≡◌, ℕ, zero, suc, ◌+◌, ◌-◌, ◌<◌, ◌≤◌, min, ◌==◌, Bool, true, false, List, [], ◌∷◌, ◌++◌, append-nil, length, codes, All, Option, Some, None, Ok, inl, subst, refl, ap, sym, ◌∙◌, arith}
use Rattle.std.proofs.lemmas.Bool.Decides.{nat_tests}
use Rattle.std.proofs.lemmas.Grind.{common_steps}
use Rattle.tl_csv.specs.Sample.{Sample, block_end, block_of}
use Rattle.tl_device.proofs.Known.{prepend_none}
use Rattle.tl_script.specs.declared.phases.Phase.{Phase}
use Rattle.tl_script.specs.Script.{Job, ScriptReading}
use Rattle.tl_command.specs.Coming.{AnswersComing}
use Rattle.tl_commands.specs.Sample.{before_blocks, next_blocks, blocks_of, phase_with, phases_with, puts_from, queries_from, SampleState, blocks_left, rows_from, left_behind, left_of, phases_left, sample_names, sample_coming, sample_reading, GivesNext}

-- BLOCKS

-- fewer lines are left behind a block
left_next : (given lines n : ℕ) → lines - given ≤ suc n → lines - min (given + 10000) lines ≤ n
left_next given lines n h = grind (arith, common_steps)

within_next : (given lines : ℕ) → min (given + 10000) lines ≤ lines
within_next given lines = grind (arith, common_steps)

all_given : (given lines : ℕ) → given ≤ lines → lines - given ≤ 0 → (given == lines) ≡ true
all_given given lines h k = let e : given ≡ lines = omega arith in rw e (grind (arith, nat_tests))

-- no block is next where all lines were given
no_block : (sample : Sample) → (sample.given == sample.lines) ≡ true → block_of sample ≡ None
no_block sample e = rw e refl

none_next : (n : ℕ) (sample : Sample) → block_of sample ≡ None → next_blocks n sample ≡ []
none_next zero sample e = refl
none_next (suc n) sample e = ap (λ b. before_blocks b (next_blocks n (record sample { given = block_end sample }))) e

-- numbers of blocks that are not less than the number of lines left give the same blocks
enough : (n m : ℕ) (sample : Sample) → sample.given ≤ sample.lines → sample.lines - sample.given ≤ n → sample.lines - sample.given ≤ m → next_blocks n sample ≡ next_blocks m sample
enough zero zero sample within h k = refl
enough zero (suc m) sample within h k = sym (none_next (suc m) sample (no_block sample (all_given sample.given sample.lines within h)))
enough (suc n) zero sample within h k = none_next (suc n) sample (no_block sample (all_given sample.given sample.lines within k))
enough (suc n) (suc m) sample within h k =
    let later = record sample { given = block_end sample } in
    ap (before_blocks (block_of sample)) (enough n m later (within_next sample.given sample.lines) (left_next sample.given sample.lines n h) (left_next sample.given sample.lines m k))

-- a block more was given
pub one_block_left : (old : Sample) (block : List ℕ) → old.given ≤ old.lines → block_of old ≡ Some block → blocks_left old ≡ block ∷ blocks_left (record old { given = block_end old })
one_block_left old block within is = by_left (old.lines - old.given) refl where
  after : Sample
  after = record old { given = block_end old }

  by_left : (n : ℕ) → old.lines - old.given ≡ n → next_blocks (old.lines - old.given) old ≡ block ∷ next_blocks (old.lines - block_end old) after
  by_left zero e = absurd (let none = no_block old (all_given old.given old.lines within (omega (arith, e))) in let f : None ≡ Some block = sym none ∙ is in cc)
  by_left (suc n) e =
      ap (λ k. next_blocks k old) e
      ∙ (ap (λ b. before_blocks b (next_blocks n after)) is
      ∙ ap (λ bs. block ∷ bs) (enough n (old.lines - block_end old) after (within_next old.given old.lines) (left_next old.given old.lines n (omega (arith, e))) (omega arith)))

-- PHASES

-- the phases of rows behind one more
rows_more : (given : ℕ) (block : List ℕ) (blocks : List (List ℕ)) → rows_from given (block ∷ blocks) ≡ phase_with (given + 1) (codes "PUT sample") (Some block) ∷ rows_from (given + 1) blocks
rows_more given block blocks =
    let a : suc (length blocks) + given + 1 ≡ length blocks + (given + 1) + 1 = omega arith in
    let b : suc (length blocks) + given ≡ length blocks + (given + 1) = omega arith in
    ap (λ n. phase_with (given + 1) (codes "PUT sample") (Some block) ∷ (puts_from (given + 1 + 1) blocks ++ queries_from n (suc (length blocks) + given) ∷ [])) a
    ∙ ap (λ n. phase_with (given + 1) (codes "PUT sample") (Some block) ∷ (puts_from (given + 1 + 1) blocks ++ queries_from (length blocks + (given + 1) + 1) n ∷ [])) b

later_left : (given : ℕ) (sample : Sample) → 0 < given → left_behind given sample ≡ rows_from given (blocks_left sample)
later_left zero sample h = absurd (omega (arith, h))
later_left (suc n) sample h = refl

one_alone : (number : ℕ) (text : List ℕ) (block : Option (List ℕ)) → All (λ job. job.session < 1) (phase_with number text block)
one_alone number text block zero d inside = omega arith
one_alone number text block (suc k) d inside = absurd (omega (arith, inside))

-- a block was put
pub block_put : (old new : SampleState) (jobs : List Job) (block : List ℕ) → 0 < old.given → old.asked ≡ false → old.sample.given ≤ old.sample.lines → block_of old.sample ≡ Some block
    → jobs ≡ phase_with (old.given + 1) (codes "PUT sample") (Some block) → new ≡ record { sample = record old.sample { given = block_end old.sample }; given = old.given + 1; asked = old.asked } → GivesNext old jobs new
block_put old new jobs block behind open_ within some is later = record {
  next =
      ap (λ a. left_of a old.given old.sample) open_
      ∙ (later_left old.given old.sample behind
      ∙ (ap (rows_from old.given) (one_block_left old.sample block within some)
      ∙ (rows_more old.given block (blocks_left after)
      ∙ (ap (λ js. js ∷ rows_from (old.given + 1) (blocks_left after)) (sym is)
      ∙ ap (λ ps. jobs ∷ ps) (sym (ap phases_left later ∙ (ap (λ a. left_of a (old.given + 1) after) open_ ∙ later_left (old.given + 1) after (omega arith))))))));
  alone = subst (λ (js : List Job). All (λ job. job.session < 1) js) (sym is) (one_alone (old.given + 1) (codes "PUT sample") (Some block));
} where
  after : Sample
  after = record old.sample { given = block_end old.sample }

-- a new sample is the script of the sample
pub all_left : (lines start : ℕ) → phases_left (record { sample = record { lines = lines; start = start; given = 0 }; given = 0; asked = false }) ≡ phases_with (blocks_of lines start)
all_left lines start =
    let a : lines - 0 ≡ lines = omega arith in
    let blocks = blocks_of lines start in
    let b : length blocks + 1 + 1 ≡ length blocks + 2 = omega arith in
    let table = phase_with 1 (codes "CREATE TABLE sample (id INT, grp INT, val INT) KEY id") None in
    ap (λ n. table ∷ rows_from 1 (next_blocks n (record { lines = lines; start = start; given = 0 }))) a
    ∙ ap (λ n. table ∷ (puts_from 2 blocks ++ queries_from n (length blocks + 1) ∷ [])) b

-- ANSWERS

pub sample_gives : (old new : SampleState) (left : Option (List ℕ)) (phase : Phase) → GivesNext old phase.jobs.items new → AnswersComing (sample_coming old) left (Ok (Some phase)) (sample_coming new) left
sample_gives old new left phase h = record {
  taken = [];
  order = sym (prepend_none left);
  needed = inl refl;
  idle = λ e. absurd (cc);
  says = record {
    live = refl;
    names = ([], sym (append-nil sample_names));
    most = refl;
    few = λ z. omega arith;
    known = λ more. ([], sym (append-nil sample_names));
    sessions = h.alone;
    ended = λ e. absurd (cc);
    comes = inl (λ whole more. ap (λ ps. record { names = sample_names; phases = ps; fault = None }) h.next);
  };
}

-- what is read of a new sample
pub sample_script : (state : SampleState) (lines start : ℕ) → state ≡ record { sample = record { lines = lines; start = start; given = 0 }; given = 0; asked = false } → (sample_coming state).reads ≡ (λ whole bytes. sample_reading lines start)
sample_script state lines start e =
    ap (λ (st : SampleState). (sample_coming st).reads) e ∙ ap (λ (ps : List (List Job)). as_read ps) (all_left lines start) where
      as_read : List (List Job) → Bool → List ℕ → ScriptReading
      as_read ps whole bytes = record { names = sample_names; phases = ps; fault = None }
