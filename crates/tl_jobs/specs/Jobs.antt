-- What a session is asked to do.
use Rattle.std.specs.Prelude.{ℕ, List, Option, option_map}
use Rattle.tl_jobs.specs.declared.jobs.LentJob.{LentJob}

-- a statement: its session's number, the line that it stands on, its text, and the bytes of its
-- block where it has one
pub record Job : Type 0 where
  pub session : ℕ
  pub line : ℕ
  pub text : List ℕ
  pub block : Option (List ℕ)

-- the plain record of a job of the program, which borrows its text and its block
abbrev pub job_of : LentJob → Job
job_of job =
    record {
      session = job.session;
      line = job.line;
      text = job.text.now;
      block = option_map (λ b. b.now) job.block;
    }
