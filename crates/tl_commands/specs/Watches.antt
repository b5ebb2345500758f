-- A watch of one plan.
use Rattle.std.specs.Prelude.{◌≡◌, List, [], ◌∷◌}
use Rattle.tl_types.specs.declared.commits.Commit.{Commit}
use Rattle.tl_watch.specs.declared.plans.WatchPlan.{WatchPlan}
use Rattle.tl_watch.specs.Watches.{Watch, StandsForCommits, plans_of}

-- the watch has this plan alone, and stands for these commits
abbrev pub WatchesPlan : WatchPlan → List Commit → Watch → Type 0
WatchesPlan plan commits watch =
    (plans_of watch.plans ≡ plan ∷ []) × StandsForCommits watch commits
