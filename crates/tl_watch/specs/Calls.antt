-- Calls of a watch that answered Ok, one after the other.
use Rattle.std.specs.Prelude.{◌≡◌, List, [], ◌∷◌, ◌++◌, fold}
use Rattle.tl_types.specs.declared.commits.Commit.{Commit}
use Rattle.tl_watch.specs.declared.plans.WatchPlan.{WatchPlan}
use Rattle.tl_watch.specs.Watches.{Watch, StandsForCommits, plans_of}

-- a plan is registered, or a commit is followed
pub data Call : Type 0 where
  Register : WatchPlan → Call
  Follow : Commit → Call

-- the commits that are known after a call
abbrev pub with_commit : List Commit → Call → List Commit
with_commit commits (Register plan) = commits
with_commit commits (Follow commit) = commits ++ commit ∷ []

-- the plans after a call
abbrev pub with_plan : List WatchPlan → Call → List WatchPlan
with_plan plans (Register plan) = plans ++ plan ∷ []
with_plan plans (Follow commit) = plans

-- the commits that are known after calls
abbrev pub commits_after : List Commit → List Call → List Commit
commits_after commits calls = fold with_commit commits calls

-- the plans after calls
abbrev pub plans_after : List WatchPlan → List Call → List WatchPlan
plans_after plans calls = fold with_plan plans calls

-- what the contract of a call says of it where it answers Ok
pub record Keeps (call : Call) (old new : Watch) (commits : List Commit) : Type 0 where
  pub stands : StandsForCommits old commits → StandsForCommits new (with_commit commits call)
  pub plans : plans_of new.plans ≡ with_plan (plans_of old.plans) call

-- calls lead from a watch, with these commits known, to another
abbrev pub RunTo : List Call → Watch → List Commit → Watch → Type 0
RunTo [] old commits new = new ≡ old
RunTo (call ∷ calls) old commits new =
    (middle : Watch) × Keeps call old middle commits
    × RunTo calls middle (with_commit commits call) new
