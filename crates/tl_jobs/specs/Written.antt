-- The bytes of turns and of a play, for the jobs of a script and the names of its sessions.
use Rattle.std.specs.Prelude.{◌≡◌, ℕ, List, [], ◌∷◌, ◌++◌, map, get_or}
use Rattle.std.specs.List.{flat_map}
use Rattle.tl_types.specs.declared.commits.Commit.{Commit}
use Rattle.tl_jobs.specs.Jobs.{Job}
use Rattle.tl_jobs.specs.Replies.{reply_bytes}
use Rattle.tl_jobs.specs.Turns.{Turn, all_turns, meant}
use Rattle.tl_jobs.specs.Play.{IsPlay}

-- the bytes of a turn's reply, with the name that stands at the number of its session, if one does
abbrev pub turn_bytes : List (List ℕ) → Turn → List ℕ
turn_bytes names t = reply_bytes (get_or names t.job.session []) t.reply

-- the bytes of the turns' replies, in the order of the turns
abbrev pub turns_bytes : List (List ℕ) → List Turn → List ℕ
turns_bytes names turns = flat_map (turn_bytes names) turns

-- the same of all phases, one after the other
abbrev pub transcript_bytes : List (List ℕ) → List (List Turn) → List ℕ
transcript_bytes names phases = turns_bytes names (all_turns phases)

-- the jobs of the turns, in order
abbrev pub jobs_of : List Turn → List Job
jobs_of turns = map (λ t. t.job) turns

-- the jobs of all phases, in order
abbrev pub all_jobs : List (List Job) → List Job
all_jobs [] = []
all_jobs (phase ∷ phases) = phase ++ all_jobs phases

-- the bytes are those of turns of the jobs, which were taken one after the other from the opening's
-- commits to all commits, without a break; the sessions have these names
abbrev pub IsPlayOf : List (List ℕ) → List Job → List Commit → List Commit → List ℕ → Type 0
IsPlayOf names jobs opening all bytes =
    (turns : List Turn) × (jobs_of turns ≡ jobs) × IsPlay meant opening turns all
    × (bytes ≡ turns_bytes names turns)
