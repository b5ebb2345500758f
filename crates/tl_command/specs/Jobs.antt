-- The jobs of a script as the sessions that are asked to do them see them.
use Rattle.std.specs.Prelude.{List, map}
use Rattle.tl_script.specs.Script.{Job as ScriptJob}
use Rattle.tl_jobs.specs.Jobs.{Job}

-- a job of a script, for its session
abbrev pub asked : ScriptJob → Job
asked job =
    record { session = job.session; line = job.line; text = job.text; block = job.block }

-- the phases of a script, for its sessions
abbrev pub phases_asked : List (List ScriptJob) → List (List Job)
phases_asked phases = map (λ jobs. map asked jobs) phases
