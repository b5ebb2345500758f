-- What sessions do with the jobs of a phase, all at once, each with its own.
use Rattle.std.specs.Prelude.{◌≡◌, ℕ, ◌+◌, ◌==◌, ◌<◌, false, List, [], ◌∷◌, ◌++◌, map, Vec, Option, Some, None, option_to_list, Result, Ok, Err, length, set, slice_get, slice_index_or}
use Rattle.std.specs.List.{filter}
use Rattle.std.specs.declared.alloc.AllocError.{AllocError}
use Rattle.std.specs.declared.alloc.Global.{Global}
use mathlib.Core.List.{IsPrefix}
use Rattle.tl_types.specs.declared.commits.Entry.{Entry}
use Rattle.tl_jobs.specs.declared.replies.Reply.{Reply}
use Rattle.tl_jobs.specs.Jobs.{Job}
use Rattle.tl_session.specs.Plain as plain
use Rattle.tl_session.specs.Statements.{IsSame}
use Rattle.tl_session.specs.Tending.{WereTended}
use Rattle.tl_jobs.specs.Turns.{Turn, meant, of_session}
use Rattle.tl_session.specs.Promises.{Chain, Chains, tally, whole_tally, weight}
use Rattle.tl_jobs.specs.Written.{jobs_of}

-- the replies of the turns, in order
abbrev pub replies_of : List Turn → List Reply
replies_of turns = map (λ t. t.reply) turns

-- the jobs of the session s, in order
abbrev pub own_jobs : ℕ → List Job → List Job
own_jobs s jobs = filter (λ j. j.session == s) jobs

-- the session answered the first so many of these jobs, in order, and all of them unless memory ran
-- out
pub record Ran (jobs : List Job) (old new : plain.Session) : Type 0 where
  pub same : IsSame old.access new.access
  pub turns : List Turn
  pub later : List Job
  pub these : jobs ≡ jobs_of turns ++ later
  pub whole : new.ran_out ≡ false → later ≡ []
  pub replies : new.replies ≡ old.replies ++ replies_of turns
  pub chain : Chain meant old.access.seen turns new.access.seen
  pub amount : new.access.amount ≡ old.access.amount + tally weight turns

-- the session went on tending: where the tables of all its replies were tended by k, they are so of
-- all that it has now, unless memory ran out
abbrev pub TendsOn : ℕ → plain.Session → plain.Session → Type 0
TendsOn k old new =
    WereTended k old.access.seen old.replies → new.ran_out ≡ false
    → WereTended k new.access.seen new.replies

-- the author of each session is the session's place in the list
abbrev pub AreNumbered : List plain.Session → Type 0
AreNumbered sessions =
    (i : ℕ) (d : plain.Session) → i < length sessions
    → (slice_index_or sessions i d).access.author ≡ i

-- each session ran the jobs of the session whose number is its place
abbrev pub AllRan : List Job → List plain.Session → List plain.Session → Type 0
AllRan jobs old new =
    (i : ℕ) (d : plain.Session) → i < length old
    → Ran (own_jobs i jobs) (slice_index_or old i d) (slice_index_or new i d)

-- each session went on tending
abbrev pub AllTendOn : ℕ → List plain.Session → List plain.Session → Type 0
AllTendOn k old new =
    (i : ℕ) (d : plain.Session) → i < length old
    → TendsOn k (slice_index_or old i d) (slice_index_or new i d)

-- the sum of the parts of the sessions' shares
abbrev pub parts_of : List plain.Session → ℕ
parts_of [] = 0
parts_of (x ∷ xs) = x.access.parts + parts_of xs

-- the sum of what the sessions' shares count
abbrev pub amounts_of : List plain.Session → ℕ
amounts_of [] = 0
amounts_of (x ∷ xs) = x.access.amount + amounts_of xs

-- what each of the sessions has seen begins these entries, all
abbrev pub AllSeenIn : List Entry → List plain.Session → Type 0
AllSeenIn all [] = Unit {0}
AllSeenIn all (x ∷ xs) = IsPrefix x.access.seen all × AllSeenIn all xs

-- a session that has no reply yet, whose share counts nothing, and that has seen these entries
pub record IsFresh (seen : List Entry) (x : plain.Session) : Type 0 where
  pub seen_is : x.access.seen ≡ seen
  pub amount_is : x.access.amount ≡ 0
  pub replies_are : x.replies ≡ []
  pub whole : x.ran_out ≡ false

-- each of the sessions is such a one, and its author is its place
abbrev pub AllFresh : List Entry → List plain.Session → Type 0
AllFresh seen xs =
    (i : ℕ) (d : plain.Session) → i < length xs
    → IsFresh seen (slice_index_or xs i d) × ((slice_index_or xs i d).access.author ≡ i)

-- memory ran out in none of the sessions
abbrev pub NoneRanOut : List plain.Session → Type 0
NoneRanOut xs =
    (i : ℕ) (d : plain.Session) → i < length xs → (slice_index_or xs i d).ran_out ≡ false

-- each session has the replies of those of the turns that are of the session whose number is its
-- place
abbrev pub HaveReplies : List plain.Session → List Turn → Type 0
HaveReplies xs turns =
    (i : ℕ) (d : plain.Session) → i < length xs
    → (slice_index_or xs i d).replies ≡ replies_of (of_session i turns)

-- what sessions keep whose replies are taken out: their number, the sums of their parts and of what
-- their shares count, and what they have seen, in so far as entries that it begins now it began
-- before
pub record KeepAll (old new : List plain.Session) : Type 0 where
  pub count : length new ≡ length old
  pub parts : parts_of new ≡ parts_of old
  pub amounts : amounts_of new ≡ amounts_of old
  pub seen : (all : List Entry) → AllSeenIn all new → AllSeenIn all old

-- the session with other replies
abbrev pub with_replies : List Reply → plain.Session → plain.Session
with_replies replies x = record x { replies = replies }

-- this reply was the session's last one and is taken out, or it is none and nothing has changed
pub record LosesReply (old new : plain.Session) (reply : Option Reply) : Type 0 where
  pub left : List Reply
  pub last : old.replies ≡ left ++ option_to_list reply
  pub new_is : new ≡ with_replies left old

-- the session at a place had this reply as its last one, and it is taken out
pub record LosesLast (place : ℕ) (old new : List plain.Session) (reply : Reply) : Type 0 where
  pub session : plain.Session
  pub left : List Reply
  pub there : slice_get old place ≡ Some session
  pub last : session.replies ≡ left ++ reply ∷ []
  pub new_is : new ≡ set old place (with_replies left session)

-- the same with a reply; without one nothing has changed
abbrev pub TakesLast : ℕ → List plain.Session → List plain.Session → Option Reply → Type 0
TakesLast place old new (Some reply) = LosesLast place old new reply
TakesLast place old new None = new ≡ old

-- sessions took these turns, each from what the shared pass had seen before; what each saw begins
-- what that pass has seen now, and the shared share counts one more for each reply that tells of a
-- commit or a break of its own
pub record TakesTurns (turns : List Turn) (old new : plain.SharedAccess) : Type 0 where
  pub table : new.table ≡ old.table
  pub parts : new.parts ≡ old.parts
  pub count : new.count ≡ old.count
  pub later : IsPrefix old.seen new.seen
  pub chains : (s : ℕ) → Chain meant old.seen (of_session s turns) new.seen
  pub amount : new.amount ≡ old.amount + tally weight turns

-- all jobs were answered, and these are the replies in the order of the jobs
pub record RunsPhase (jobs : List Job) (replies : List Reply) (old new : plain.SharedAccess)
    : Type 0 where
  pub turns : List Turn
  pub these : jobs_of turns ≡ jobs
  pub told : replies_of turns ≡ replies
  pub taken : TakesTurns turns old new

-- memory ran out: each session answered the first so many of its jobs
pub record RunsFronts (jobs : List Job) (old new : plain.SharedAccess) : Type 0 where
  pub turns : List Turn
  pub fronts : (s : ℕ) → (later : List Job)
      × (own_jobs s jobs ≡ jobs_of (of_session s turns) ++ later)
  pub taken : TakesTurns turns old new

-- what a phase with these jobs did: all were answered, or memory ran out
abbrev pub Runs : List Job → plain.SharedAccess → plain.SharedAccess
    → Result (Vec Reply Global) AllocError → Type 0
Runs jobs old new (Ok replies) = RunsPhase jobs replies.items old new
Runs jobs old new (Err e) = RunsFronts jobs old new

-- these phases were run one after the other from the opening's entries on, and what was seen after
-- the last of them begins these entries; so many replies tell of a commit or a break of their own
pub record HaveRun (opening : List Entry) (phases : List (List Turn))
    (seen : List Entry) (amount : ℕ) : Type 0 where
  pub chains : Chains meant opening phases seen
  pub count : amount ≡ whole_tally weight phases
