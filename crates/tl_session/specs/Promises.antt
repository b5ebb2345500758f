-- What each session says by its replies: each reply over the entries that the session had seen
-- before it and has seen after it.
use Rattle.std.specs.Prelude.{◌≡◌, ℕ, ◌+◌, ◌≤◌, true, false, IsTrue, List, [], ◌∷◌, ◌++◌, length, take}
use mathlib.Core.List.{IsPrefix}
use Rattle.tl_types.specs.declared.commits.Commit.{Commit}
use Rattle.tl_types.specs.declared.commits.Entry.{Entry}
use Rattle.tl_types.specs.declared.commits.Entry.TheVariants as entry
use Rattle.tl_types.specs.Entries.{commits_of, has_break}
use Rattle.tl_types.specs.Legality.{are_legal}
use Rattle.tl_engine.specs.Counting.{news}
use Rattle.tl_jobs.specs.declared.readings.JobReading.TheVariants.{Query}
use Rattle.tl_jobs.specs.declared.replies.ReplyBody.{ReplyBody}
use Rattle.tl_jobs.specs.declared.replies.ReplyBody.TheVariants as body
use Rattle.tl_jobs.specs.Jobs.{Job}
use Rattle.tl_jobs.specs.Turns.{Turn, Meaning, HasFault, Makes, ReadsWell, of_session}

-- what was seen begins a base, and what is seen now is the base and one entry more
abbrev pub Appended : List Entry → List Entry → List Entry → Entry → Type 0
Appended old base new e = IsPrefix old base × (new ≡ base ++ e ∷ [])

-- what was seen begins what is seen now, and the version lies between the numbers of their commits
abbrev pub Looked : List Entry → List Entry → ℕ → Type 0
Looked old new v =
    IsPrefix old new × (length (commits_of old) ≤ v) × (v ≤ length (commits_of new))

-- what a reply with this body and version says of the entries that were seen before it and after it
abbrev pub BodySays : Meaning → Job → ℕ → ReplyBody → List Entry → List Entry → Type 0
BodySays m job v (body.Rows answer) old new =
    Looked old new v × m.reads (take v (commits_of new)) job (Query answer)
BodySays m job v (body.Refused f) old new =
    Looked old new v × HasFault m (take v (commits_of new)) job f
BodySays m job v body.Done old new =
    (base : List Entry) × (c : Commit) × Appended old base new (entry.Commit c)
    × (v ≡ length (commits_of base) + 1) × Makes m (commits_of base) job c
BodySays m job v body.DeviceFault old new =
    (base : List Entry) × (c : Commit) × Appended old base new (entry.Break c)
    × (v ≡ length (commits_of base)) × Makes m (commits_of base) job c
BodySays m job v body.BrokenJournal old new =
    IsPrefix old new × (has_break new ≡ true) × (v ≡ length (commits_of new))
    × ReadsWell m (commits_of new) job

-- the same of a turn, whose reply names the line of its job; where a break had been seen before, a
-- batch that reads well over the commits of the version is answered that the journal is broken
abbrev pub Says : Meaning → Turn → List Entry → List Entry → Type 0
Says m t old new =
    BodySays m t.job t.reply.version t.reply.body old new × (t.reply.line ≡ t.job.line)
    × (has_break old ≡ true → ReadsWell m (take t.reply.version (commits_of new)) t.job
    → t.reply.body ≡ body.BrokenJournal)

-- the turns of a session, one after the other: old is what had been seen before them, and what had
-- been seen after the last begins new
abbrev pub Chain : Meaning → List Entry → List Turn → List Entry → Type 0
Chain m old [] new = IsPrefix old new
Chain m old (t ∷ ts) new = (mid : List Entry) × Says m t old mid × Chain m mid ts new

-- the phases, one after the other: each session begins with what all had seen before the phase,
-- and what it has seen after it begins what all have seen then
abbrev pub Chains : Meaning → List Entry → List (List Turn) → List Entry → Type 0
Chains m old [] new = IsPrefix old new
Chains m old (phase ∷ phases) new =
    (mid : List Entry) × IsPrefix old mid × ((s : ℕ) → Chain m old (of_session s phase) mid)
    × Chains m mid phases new

-- the sum of f over the turns
abbrev pub tally : (Turn → ℕ) → List Turn → ℕ
tally f [] = 0
tally f (t ∷ ts) = f t + tally f ts

-- the sum of f over the turns of all phases
abbrev pub whole_tally : (Turn → ℕ) → List (List Turn) → ℕ
whole_tally f [] = 0
whole_tally f (phase ∷ phases) = tally f phase + whole_tally f phases

-- 1 for a reply that tells of a commit or a break of its own, else 0
abbrev pub body_weight : ReplyBody → ℕ
body_weight (body.Rows answer) = 0
body_weight (body.Refused f) = 0
body_weight body.Done = 1
body_weight body.DeviceFault = 1
body_weight body.BrokenJournal = 0

-- the same of a turn
abbrev pub weight : Turn → ℕ
weight t = body_weight t.reply.body

-- what the sessions of all phases say between the opening's entries, which have no break, and the
-- last ones, which are legal: each reply is right over what its session had seen, and as many
-- replies tell of a commit or a break of their own as there are commits and breaks more
pub record Promised (m : Meaning) (opening last : List Entry)
    (phases : List (List Turn)) : Type 0 where
  pub legal : IsTrue (are_legal last)
  pub whole : has_break opening ≡ false
  pub chains : Chains m opening phases last
  pub count : news opening + whole_tally weight phases ≡ news last
