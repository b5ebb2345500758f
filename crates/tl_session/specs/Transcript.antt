-- What the replies of all phases say of the commits and the break. A phase is a list of turns of
-- any sessions, in the order of their jobs. A version v is that of the first v commits.
use Rattle.std.specs.Prelude.{◌≡◌, ℕ, ◌+◌, ◌<◌, ◌≤◌, Bool, true, false, ◌||◌, ◌==◌, if◌then◌else◌, List, [], ◌∷◌, length, map, take, max, Option, Some, None, slice_get}
use Rattle.tl_types.specs.declared.commits.Commit.{Commit}
use Rattle.tl_jobs.specs.declared.readings.JobReading.TheVariants.{Query}
use Rattle.tl_jobs.specs.declared.replies.AnswerText.{AnswerText}
use Rattle.tl_jobs.specs.declared.replies.Refusal.{Refusal}
use Rattle.tl_jobs.specs.declared.replies.ReplyBody.{ReplyBody}
use Rattle.tl_jobs.specs.declared.replies.ReplyBody.TheVariants as body
use Rattle.tl_jobs.specs.Jobs.{Job}
use Rattle.tl_jobs.specs.Turns.{Turn, Meaning, meant, HasFault, Makes, ReadsWell, of_session, Each, EachOfAll}
use Rattle.tl_jobs.specs.Written.{jobs_of, transcript_bytes}
use Rattle.tl_session.specs.Promises.{whole_tally}

-- the reply names the line of its job
abbrev pub OwnLine : Turn → Type 0
OwnLine t = t.reply.line ≡ t.job.line

-- a reply with rows is the answer to its query over the commits of its version
abbrev pub RowsRight : Meaning → List Commit → Turn → Type 0
RowsRight m all t =
    (answer : AnswerText) → t.reply.body ≡ body.Rows answer
    → m.reads (take t.reply.version all) t.job (Query answer)

-- a refusal tells the job's fault over the commits of its version
abbrev pub RefusedRight : Meaning → List Commit → Turn → Type 0
RefusedRight m all t =
    (f : Refusal) → t.reply.body ≡ body.Refused f
    → HasFault m (take t.reply.version all) t.job f

-- where a batch is done, the last commit of the reply's version is none of the opening's, and it is
-- what the batch becomes over the commits before it
abbrev pub DoneRight : Meaning → List Commit → ℕ → Turn → Type 0
DoneRight m all opened t =
    t.reply.body ≡ body.Done
    → (v : ℕ) × (t.reply.version ≡ v + 1) × (opened ≤ v) × (c : Commit) × (slice_get all v ≡ Some c)
    × Makes m (take v all) t.job c

-- a fault of the device names the version of all commits, and the break is the commit that the
-- batch becomes over these
abbrev pub DeviceRight : Meaning → List Commit → Option Commit → Turn → Type 0
DeviceRight m all broke t =
    t.reply.body ≡ body.DeviceFault
    → (t.reply.version ≡ length all) × (c : Commit) × (broke ≡ Some c) × Makes m all t.job c

-- the answer that the journal is broken names the version of all commits; there is a break, and the
-- job is a batch that reads well over these
abbrev pub BrokenRight : Meaning → List Commit → Option Commit → Turn → Type 0
BrokenRight m all broke t =
    t.reply.body ≡ body.BrokenJournal
    → (t.reply.version ≡ length all) × ((c : Commit) × (broke ≡ Some c)) × ReadsWell m all t.job

-- the reply's version is one of those from first to last
abbrev pub Between : ℕ → ℕ → Turn → Type 0
Between first last t = (first ≤ t.reply.version) × (t.reply.version ≤ last)

-- no reply names a version below that of the reply before it, and the first none below the floor
abbrev pub NeverFalls : ℕ → List Turn → Type 0
NeverFalls floor [] = Unit {0}
NeverFalls floor (t ∷ ts) = (floor ≤ t.reply.version) × NeverFalls t.reply.version ts

-- a batch that is done names a version above top, and above those of all replies before it
abbrev pub DoneRises : ℕ → List Turn → Type 0
DoneRises top [] = Unit {0}
DoneRises top (t ∷ ts) =
    (t.reply.body ≡ body.Done → top < t.reply.version) × DoneRises (max top t.reply.version) ts

-- the greatest of top and of the versions that the replies name
abbrev pub highest : ℕ → List Turn → ℕ
highest top [] = top
highest top (t ∷ ts) = highest (max top t.reply.version) ts

-- in each phase P holds of each session's turns, with the greatest of top and of the versions that
-- earlier phases named
abbrev pub Above : (ℕ → List Turn → Type 0) → ℕ → List (List Turn) → Type 0
Above P top [] = Unit {0}
Above P top (phase ∷ phases) =
    ((s : ℕ) → P top (of_session s phase)) × Above P (highest top phase) phases

-- 1 where a reply with this body and the version w says that a batch is done at version v, else 0
abbrev pub done_with : ℕ → ReplyBody → ℕ → ℕ
done_with v body.Done w = if w == v then 1 else 0
done_with v (body.Rows answer) w = 0
done_with v (body.Refused f) w = 0
done_with v body.DeviceFault w = 0
done_with v body.BrokenJournal w = 0

-- the same of a turn
abbrev pub done_at : ℕ → Turn → ℕ
done_at v t = done_with v t.reply.body t.reply.version

-- 1 for a fault of the device, else 0
abbrev pub body_device : ReplyBody → ℕ
body_device (body.Rows answer) = 0
body_device (body.Refused f) = 0
body_device body.Done = 0
body_device body.DeviceFault = 1
body_device body.BrokenJournal = 0

-- the same of a turn
abbrev pub device : Turn → ℕ
device t = body_device t.reply.body

-- the body tells of a break
abbrev pub body_breaks : ReplyBody → Bool
body_breaks (body.Rows answer) = false
body_breaks (body.Refused f) = false
body_breaks body.Done = false
body_breaks body.DeviceFault = true
body_breaks body.BrokenJournal = true

-- one of the replies tells of a break
abbrev pub breaks : List Turn → Bool
breaks [] = false
breaks (t ∷ ts) = body_breaks t.reply.body || breaks ts

-- once a reply told of a break (or told is true, for one before these), each batch that reads well
-- over the commits of its reply's version is answered that the journal is broken
abbrev pub StaysBroken : Meaning → List Commit → Bool → List Turn → Type 0
StaysBroken m all told [] = Unit {0}
StaysBroken m all told (t ∷ ts) =
    (told ≡ true → ReadsWell m (take t.reply.version all) t.job
    → t.reply.body ≡ body.BrokenJournal)
    × StaysBroken m all (told || body_breaks t.reply.body) ts

-- the same of each session's turns in each phase, where a reply of any session in an earlier phase
-- counts as one before them
abbrev pub AllStayBroken : Meaning → List Commit → Bool → List (List Turn) → Type 0
AllStayBroken m all told [] = Unit {0}
AllStayBroken m all told (phase ∷ phases) =
    ((s : ℕ) → StaysBroken m all told (of_session s phase))
    × AllStayBroken m all (told || breaks phase) phases

-- for each version above first, up to last, exactly one reply says that a batch is done at it
abbrev pub OneDone : ℕ → ℕ → List (List Turn) → Type 0
OneDone first last phases =
    (v : ℕ) → first < v → v ≤ last → whole_tally (done_at v) phases ≡ 1

-- with a break exactly one reply tells of a fault of the device; without one no reply tells of a
-- break
abbrev pub OneDevice : Option Commit → List (List Turn) → Type 0
OneDevice (Some c) phases = whole_tally device phases ≡ 1
OneDevice None phases = EachOfAll (λ t. body_breaks t.reply.body ≡ false) phases

-- the replies of all phases are right over the opening's commits, old, all commits and the break,
-- or none
pub record Transcript (m : Meaning) (old all : List Commit) (broke : Option Commit)
    (phases : List (List Turn)) : Type 0 where
  pub lines : EachOfAll OwnLine phases
  pub rows : EachOfAll (RowsRight m all) phases
  pub refused : EachOfAll (RefusedRight m all) phases
  pub done : EachOfAll (DoneRight m all (length old)) phases
  pub device_fault : EachOfAll (DeviceRight m all broke) phases
  pub broken : EachOfAll (BrokenRight m all broke) phases
  pub between : EachOfAll (Between (length old) (length all)) phases
  pub never_fall : Above NeverFalls (length old) phases
  pub done_rises : Above DoneRises (length old) phases
  pub one_done : OneDone (length old) (length all) phases
  pub one_device : OneDevice broke phases
  pub stays_broken : AllStayBroken m all false phases

-- the bytes are those of turns of the phases' jobs, which make a transcript over the opening's
-- commits, all commits and this break, or none; the sessions have these names
abbrev pub IsTranscript : List (List ℕ) → List (List Job) → List Commit → List Commit
    → Option Commit → List ℕ → Type 0
IsTranscript names phases opening all broke bytes =
    (turns : List (List Turn)) × (map jobs_of turns ≡ phases)
    × Transcript meant opening all broke turns × (bytes ≡ transcript_bytes names turns)
