use Rattle.std.proofs.Common.{rules, ◌≡◌, ◌+◌, length, false, refl, Some}
use Rattle.tl_types.specs.History.{database_of, fits}
use Rattle.tl_follow.specs.Following.{Following, commits_in, next_held}
use Rattle.tl_follow.proofs.follower.Follower.step_over.Goals as goal

pub returns-then-not-fits-clause-err : goal.returns-then-not-fits-clause-err
returns-then-not-fits-clause-err c =
    let f : Following = record { limits = c.self.inside.limits; entries = c.self.inside.snapshot; held = c.self.inside.held.entries } in
    let version : c.versions.result + 1 ≡ length (commits_in f) + 1 = search rules in
    let held : next_held f ≡ Some c.in-Some.commit.now = search rules in
    let unfit : fits f.limits (database_of (commits_in f)) c.in-Some.commit.now ≡ false = search rules in
    rw (← c.self.view_is) (version, (c.in-Some.commit.now, held, unfit), refl)
