-- Jobs done one after the other, over a history without a break.
use Rattle.std.specs.Prelude.{◌≡◌, ℕ, ◌+◌, List, [], ◌∷◌, ◌++◌, length}
use Rattle.tl_types.specs.declared.commits.Commit.{Commit}
use Rattle.tl_jobs.specs.declared.readings.JobReading.TheVariants.{Query}
use Rattle.tl_jobs.specs.declared.replies.ReplyBody.{ReplyBody}
use Rattle.tl_jobs.specs.declared.replies.ReplyBody.TheVariants as body
use Rattle.tl_jobs.specs.Jobs.{Job}
use Rattle.tl_jobs.specs.Turns.{Turn, Meaning, HasFault, Makes, Each}

-- the job is answered with this body at version v, over the commits so far, and those after it are
-- there then: a query and a refusal name the number of the commits and change nothing, a batch that
-- becomes a commit appends it and names its version, and no other body is an answer
abbrev pub Acts : Meaning → Job → ℕ → ReplyBody → List Commit → List Commit → Type 0
Acts m job v (body.Rows answer) commits after =
    (v ≡ length commits) × m.reads commits job (Query answer) × (after ≡ commits)
Acts m job v (body.Refused f) commits after =
    (v ≡ length commits) × HasFault m commits job f × (after ≡ commits)
Acts m job v body.Done commits after =
    (c : Commit) × (v ≡ length commits + 1) × Makes m commits job c × (after ≡ commits ++ c ∷ [])
Acts m job v body.DeviceFault commits after = ⊥
Acts m job v body.BrokenJournal commits after = ⊥

-- the turns were taken one after the other, the first over these commits and each next one over
-- those that the one before it left, and all are there after the last; each reply names the line of
-- its job
abbrev pub IsPlay : Meaning → List Commit → List Turn → List Commit → Type 0
IsPlay m commits [] all = all ≡ commits
IsPlay m commits (t ∷ ts) all =
    (mid : List Commit) × Acts m t.job t.reply.version t.reply.body commits mid
    × (t.reply.line ≡ t.job.line) × IsPlay m mid ts all

-- all turns are of one session
abbrev pub IsLone : List Turn → Type 0
IsLone turns = (s : ℕ) × Each (λ t. t.job.session ≡ s) turns

-- in each phase all turns are of one session, which may be another one in each
abbrev pub AreLone : List (List Turn) → Type 0
AreLone [] = Unit {0}
AreLone (phase ∷ phases) = IsLone phase × AreLone phases

-- each of the jobs is of the session with the number s
abbrev pub AreOfOne : ℕ → List Job → Type 0
AreOfOne s [] = Unit {0}
AreOfOne s (job ∷ jobs) = (job.session ≡ s) × AreOfOne s jobs

-- in each phase all jobs are of one session, which may be another one in each
abbrev pub AreLonePhases : List (List Job) → Type 0
AreLonePhases [] = Unit {0}
AreLonePhases (jobs ∷ phases) = ((s : ℕ) × AreOfOne s jobs) × AreLonePhases phases
