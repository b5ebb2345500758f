-- What is told of a plan behind the replies of a play: behind each reply that is done the plan's
-- value over the commits up to it. Without a plan the replies stand alone.
use Rattle.std.specs.Prelude.{◌≡◌, Bool, true, false, List, [], ℕ, ◌++◌, take, Option, Some, None}
use Rattle.std.specs.List.{flat_map}
use Rattle.tl_types.specs.declared.commits.Commit.{Commit}
use Rattle.tl_watch.specs.declared.plans.WatchPlan.{WatchPlan}
use Rattle.tl_watch.specs.Watches.{Watch}
use Rattle.tl_commands.specs.WatchRows.{watch_bytes}
use Rattle.tl_commands.specs.Watches.{WatchesPlan}
use Rattle.tl_jobs.specs.declared.replies.ReplyBody.{ReplyBody}
use Rattle.tl_jobs.specs.declared.replies.ReplyBody.TheVariants as body
use Rattle.tl_jobs.specs.Jobs.{Job}
use Rattle.tl_jobs.specs.Play.{IsPlay}
use Rattle.tl_jobs.specs.Turns.{Turn, meant}
use Rattle.tl_jobs.specs.Written.{IsPlayOf, jobs_of, turn_bytes}
use Rattle.tl_commands.specs.Refusing.{AreAccepted}

-- THE WATCH

-- with a plan there is a watch of it alone, which stands for these commits; without one there is
-- none
abbrev pub WatchesFor : Option WatchPlan → List Commit → Option Watch → Type 0
WatchesFor None commits None = Unit {0}
WatchesFor None commits (Some watch) = ⊥
WatchesFor (Some plan) commits None = ⊥
WatchesFor (Some plan) commits (Some watch) = WatchesPlan plan commits watch

-- the same with some plan or none
abbrev pub IsWatched : List Commit → Option Watch → Type 0
IsWatched commits watching = (plan : Option WatchPlan) × WatchesFor plan commits watching

-- WHAT IS TOLD

-- what is told of a plan behind a reply with this body, over these commits: its value where the
-- reply is done, and else nothing
abbrev pub told_behind : Option WatchPlan → ReplyBody → List Commit → List ℕ
told_behind None told commits = []
told_behind (Some plan) body.Done commits = watch_bytes plan commits
told_behind (Some plan) (body.Rows answer) commits = []
told_behind (Some plan) (body.Refused f) commits = []
told_behind (Some plan) body.DeviceFault commits = []
told_behind (Some plan) body.BrokenJournal commits = []

-- a turn's reply, and what is told of a plan behind it: over as many first ones of all commits as
-- the version of the reply says
abbrev pub told_turn : Option WatchPlan → List (List ℕ) → List Commit → Turn → List ℕ
told_turn plan names all t =
    turn_bytes names t ++ told_behind plan t.reply.body (take t.reply.version all)

-- the same of all turns, in order
abbrev pub told_bytes : Option WatchPlan → List (List ℕ) → List Commit → List Turn → List ℕ
told_bytes plan names all turns = flat_map (told_turn plan names all) turns

-- the bytes are those of turns of the jobs, which were taken one after the other from the opening's
-- commits to all commits, with what is told of the plan behind each reply; the sessions have these
-- names
abbrev pub IsPlayTold : Option WatchPlan → List (List ℕ) → List Job → List Commit → List Commit
    → List ℕ → Type 0
IsPlayTold None names jobs opening all bytes = IsPlayOf names jobs opening all bytes
IsPlayTold (Some plan) names jobs opening all bytes =
    (turns : List Turn) × (jobs_of turns ≡ jobs) × IsPlay meant opening turns all
    × (bytes ≡ told_bytes (Some plan) names all turns)

-- the same where a refusal ends a play or not: where it does, no turn is refused
abbrev pub IsPlayBy : Bool → Option WatchPlan → List (List ℕ) → List Job → List Commit
    → List Commit → List ℕ → Type 0
IsPlayBy false plan names jobs opening all bytes = IsPlayTold plan names jobs opening all bytes
IsPlayBy true plan names jobs opening all bytes =
    (turns : List Turn) × (jobs_of turns ≡ jobs) × IsPlay meant opening turns all
    × AreAccepted turns × (bytes ≡ told_bytes plan names all turns)
