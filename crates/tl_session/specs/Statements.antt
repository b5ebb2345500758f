-- What a session does with one job.
use Rattle.std.specs.Prelude.{◌≡◌, ◌⊎◌, ℕ, ◌+◌, true, [], ◌∷◌, ◌++◌, length, take, Option, Some, None, Result, Ok, Err}
use mathlib.Core.List.{IsPrefix}
use Rattle.tl_types.specs.declared.batches.Batch.{Batch}
use Rattle.tl_types.specs.Entries.{commits_of, has_break}
use Rattle.tl_types.specs.History.{database_of}
use Rattle.tl_history.specs.declared.faults.CommitFault.{CommitFault}
use Rattle.tl_history.specs.declared.faults.CommitFault.TheVariants as fault
use Rattle.tl_jobs.specs.declared.readings.JobReading.{JobReading}
use Rattle.tl_jobs.specs.declared.readings.JobReading.TheVariants.{Loads}
use Rattle.tl_jobs.specs.declared.replies.Refusal.TheVariants as refusal
use Rattle.tl_jobs.specs.declared.replies.Reply.{Reply}
use Rattle.tl_jobs.specs.declared.replies.ReplyBody.{ReplyBody}
use Rattle.tl_jobs.specs.declared.replies.ReplyBody.TheVariants as body
use Rattle.tl_session.specs.declared.statements.Settled.{Settled}
use Rattle.tl_jobs.specs.Jobs.{Job}
use Rattle.tl_session.specs.Plain as plain
use Rattle.tl_jobs.specs.Reading.{Reads}
use Rattle.tl_session.specs.Tending.{table_of, NamesTable, HasTended}
use Rattle.tl_jobs.specs.Turns.{meant, ReadsWell}
use Rattle.tl_session.specs.Promises.{BodySays, body_weight}

-- the author, the table and the number of parts of the share are the same
pub record IsSame (old new : plain.Access) : Type 0 where
  pub author : new.author ≡ old.author
  pub table : new.table ≡ old.table
  pub parts : new.parts ≡ old.parts

-- more may have been seen, and nothing else has changed
pub record SeesMore (old new : plain.Access) : Type 0 where
  pub same : IsSame old new
  pub later : IsPrefix old.seen new.seen
  pub amount : new.amount ≡ old.amount

-- the reading is the job's over the commits that have been seen, and the version is their number
pub record IsLook (job : Job) (version : ℕ) (reading : JobReading) (now : plain.Access)
    : Type 0 where
  pub version_is : version ≡ length (commits_of now.seen)
  pub reads : Reads (commits_of now.seen) job reading

-- a batch is answered with this body at this version: it is what a reply to any job of the session
-- may say that reads as the batch over what had been seen; where a break had been seen, it says
-- that the journal is broken; and the share counts it
pub record Settles (batch : Batch) (version : ℕ) (answer : ReplyBody)
    (old new : plain.Access) : Type 0 where
  pub same : IsSame old new
  pub says : (job : Job) → job.session ≡ old.author → Reads (commits_of old.seen) job (Loads batch)
      → BodySays meant job version answer old.seen new.seen
  pub broken : has_break old.seen ≡ true → answer ≡ body.BrokenJournal
  pub amount : new.amount ≡ old.amount + body_weight answer
  pub later : IsPrefix old.seen new.seen
  pub names : NamesTable (table_of (database_of (commits_of old.seen)) batch) version answer
      new.seen

-- the version and the body with which the engine's answer to a batch is told, unless memory ran out
abbrev pub outcome_of : Result ℕ CommitFault → Option Settled
outcome_of (Ok v) = Some (record { version = v; body = body.Done })
outcome_of (Err (fault.Broken v)) = Some (record { version = v; body = body.BrokenJournal })
outcome_of (Err (fault.Refused v f)) =
    Some (record { version = v; body = body.Refused (refusal.BatchFault f) })
outcome_of (Err fault.NoMemory) = None
outcome_of (Err (fault.Device v count)) =
    Some (record { version = v; body = body.DeviceFault })

-- a job is answered with this body at this version: the body says what had been seen and is seen
-- now; where a break had been seen, a batch that reads well is answered that the journal is broken;
-- and the share counts the answer
pub record Tells (job : Job) (version : ℕ) (answer : ReplyBody)
    (old new : plain.Access) : Type 0 where
  pub same : IsSame old new
  pub says : BodySays meant job version answer old.seen new.seen
  pub broken : has_break old.seen ≡ true
      → ReadsWell meant (take version (commits_of new.seen)) job → answer ≡ body.BrokenJournal
  pub amount : new.amount ≡ old.amount + body_weight answer

-- the session answered the job by exactly one reply more, which names the job's line; when it was
-- settled the access was this, and since then at most more was seen
pub record Replied (job : Job) (reply : Reply) (old new : plain.Session) : Type 0 where
  pub mid : plain.Access
  pub told : Tells job reply.version reply.body old.access mid
  pub later : SeesMore mid new.access
  pub line : reply.line ≡ job.line
  pub replies : new.replies ≡ old.replies ++ reply ∷ []
  pub ran_out : new.ran_out ≡ old.ran_out

-- and of the table that a commit changed a mark is seen, or a break, or none is due
pub record AnswersJob (k : ℕ) (job : Job) (old new : plain.Session) : Type 0 where
  pub reply : Reply
  pub replied : Replied job reply old new
  pub tended : HasTended k reply.version reply.body new.access.seen

-- the session did not answer: more may have been seen, and nothing else has changed
pub record IsSilent (old new : plain.Session) : Type 0 where
  pub more : SeesMore old.access new.access
  pub replies : new.replies ≡ old.replies
  pub ran_out : new.ran_out ≡ old.ran_out

-- memory ran out before the session answered, or after it, while the table was tended
abbrev pub Stops : Job → plain.Session → plain.Session → Type 0
Stops job old new = IsSilent old new ⊎ ((reply : Reply) × Replied job reply old new)
