-- Jobs with their replies, and what becomes of a job over a list of commits.
use Rattle.std.specs.Prelude.{◌≡◌, ◌⊎◌, ℕ, ◌==◌, List, [], ◌∷◌, ◌++◌, Option, Some, None, Result, Ok, Err}
use Rattle.std.specs.List.{filter}
use Rattle.tl_types.specs.declared.commits.Commit.{Commit}
use Rattle.tl_types.specs.declared.commits.Entry.{Entry}
use Rattle.tl_types.specs.declared.commits.Entry.TheVariants as entry
use Rattle.tl_types.specs.declared.batches.Batch.{Batch}
use Rattle.tl_types.specs.declared.batches.BatchFault.{BatchFault}
use Rattle.tl_types.specs.Limits.{standard_limits}
use Rattle.tl_types.specs.History.{database_of}
use Rattle.tl_types.specs.Resolving.{resolved}
use Rattle.tl_jobs.specs.declared.replies.Refusal.{Refusal}
use Rattle.tl_jobs.specs.declared.replies.Refusal.TheVariants as refusal
use Rattle.tl_jobs.specs.declared.replies.Reply.{Reply}
use Rattle.tl_jobs.specs.declared.readings.JobReading.{JobReading}
use Rattle.tl_jobs.specs.declared.readings.JobReading.TheVariants.{Loads, Fault}
use Rattle.tl_jobs.specs.Jobs.{Job}
use Rattle.tl_jobs.specs.Reading.{Reads}

-- a job and its reply
pub record Turn : Type 0 where
  pub job : Job
  pub reply : Reply

-- a meaning of jobs: as what a job reads over a list of commits
pub record Meaning : Type 1 where
  pub reads : List Commit → Job → JobReading → Type 0

-- the meaning of the jobs of a script
abbrev pub meant : Meaning
meant = record { reads = Reads }

-- P holds of each turn of a list
abbrev pub Each : (Turn → Type 0) → List Turn → Type 0
Each P [] = Unit {0}
Each P (t ∷ ts) = P t × Each P ts

-- P holds of each turn of all phases
abbrev pub EachOfAll : (Turn → Type 0) → List (List Turn) → Type 0
EachOfAll P [] = Unit {0}
EachOfAll P (phase ∷ phases) = Each P phase × EachOfAll P phases

-- the turns of the session s, in order
abbrev pub of_session : ℕ → List Turn → List Turn
of_session s turns = filter (λ t. t.job.session == s) turns

-- the turns of all phases, in order
abbrev pub all_turns : List (List Turn) → List Turn
all_turns [] = []
all_turns (phase ∷ phases) = phase ++ all_turns phases

-- the commit of the first break among the entries, where there is one
abbrev pub break_of : List Entry → Option Commit
break_of [] = None
break_of (entry.Commit commit ∷ rest) = break_of rest
break_of (entry.Mark table version ∷ rest) = break_of rest
break_of (entry.Break commit ∷ rest) = Some commit

-- the commit that a batch of a session becomes over these commits under the standard limits, or the
-- batch's first fault
abbrev pub made : List Commit → ℕ → Batch → Result Commit BatchFault
made commits session batch = resolved standard_limits (database_of commits) session batch

-- the job reads as this fault, or it reads as a batch that becomes no commit because of it
abbrev pub HasFault : Meaning → List Commit → Job → Refusal → Type 0
HasFault m commits job f =
    m.reads commits job (Fault f)
    ⊎ ((b : Batch) × (e : BatchFault) × m.reads commits job (Loads b)
    × (made commits job.session b ≡ Err e) × (f ≡ refusal.BatchFault e))

-- the job reads as a batch, and this is the commit that the batch becomes
abbrev pub Makes : Meaning → List Commit → Job → Commit → Type 0
Makes m commits job c =
    (b : Batch) × m.reads commits job (Loads b) × (made commits job.session b ≡ Ok c)

-- the job reads as a batch
abbrev pub ReadsWell : Meaning → List Commit → Job → Type 0
ReadsWell m commits job = (b : Batch) × m.reads commits job (Loads b)
