-- What calls of a watch keep, one after the other.
use Rattle.std.proofs.Common.{◌≡◌, List, [], ◌∷◌, sym, ap, ◌∙◌, subst}
use Rattle.tl_types.specs.declared.commits.Commit.{Commit}
use Rattle.tl_watch.specs.Watches.{Watch, StandsForCommits, plans_of}
use Rattle.tl_watch.specs.Calls.{Call, RunTo, with_commit, commits_after, plans_after}

pub calls_stand : (calls : List Call) (first last : Watch) (commits : List Commit) → StandsForCommits first commits → RunTo calls first commits last → StandsForCommits last (commits_after commits calls)
calls_stand [] first last commits stands run = subst (λ w. StandsForCommits w commits) (sym run) stands
calls_stand (call ∷ calls) first last commits stands run = calls_stand calls run.0 last (with_commit commits call) (run.1.stands stands) run.2

pub calls_plans : (calls : List Call) (first last : Watch) (commits : List Commit) → RunTo calls first commits last → plans_of last.plans ≡ plans_after (plans_of first.plans) calls
calls_plans [] first last commits run = ap (λ (w : Watch). plans_of w.plans) run
calls_plans (call ∷ calls) first last commits run = calls_plans calls run.0 last (with_commit commits call) run.2 ∙ ap (λ ps. plans_after ps calls) run.1.plans
