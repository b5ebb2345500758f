use Rattle.std.proofs.Common.{◌<◌, ◌+◌, length, subst, sym, ap, ◌∙◌, Some, Ok, Err}
use Rattle.std.proofs.lemmas.Result.{err_from_is_err_and}
use Rattle.tl_follow.specs.Following.{commits_in}
use Rattle.tl_follow.specs.Calls.{IsAdvanced}
use Rattle.tl_follow.proofs.Advancing.{one_more, one_fits, commits_behind, same_limits, removed_fewer, done, not_done}
use Rattle.tl_follow.proofs.follower.Follower.advance_all.Goals as goal

pub returns-in_err-commit-clause-follows : goal.returns-in_err-commit-clause-follows
returns-in_err-commit-clause-follows c = λ start packets h. c.advance.ensures.follows start packets (c.going.invariant.follows start packets h)

pub returns-in_err-commit-clause-end : goal.returns-in_err-commit-clause-end
returns-in_err-commit-clause-end c = λ start packets h.
    let p = err_from_is_err_and c.from_residual.result c.from_residual.ensures.1 in
    not_done c.from_residual.result c.in_err-commit.field-0.0 c.going.self c.advance.new.self start packets (p.1 ∙ ap (λ e. Err e) p.2)
    c.in_err-commit.ensures.step (c.going.invariant.follows start packets h)

pub going-smaller : goal.going-smaller
going-smaller c =
    let a = subst (λ o. IsAdvanced c.going.self (Ok o) c.advance.new.self) c.in-Some.is c.in_ok-commit.ensures.step in
    subst (λ k. length k.held < length c.going.self.held) (sym a.2) (removed_fewer c.going.self.held (length (commits_in c.going.self) + 1) c.in-Some.commit a.0)

pub going-preserved : goal.going-preserved
going-preserved c =
    let a = subst (λ o. IsAdvanced c.going.self (Ok o) c.advance.new.self) c.in-Some.is c.in_ok-commit.ensures.step in
    record {
      entries = one_more c.args.self.now.entries c.going.self c.advance.new.self c.going.out c.push.new.self c.in-Some.commit a c.going.invariant.entries c.in_ok-push.ensures.ok;
      fit = one_fits c.args.self.now.limits c.args.self.now.entries c.going.self c.advance.new.self c.going.out c.push.new.self c.in-Some.commit a c.going.invariant.limits c.going.invariant.entries c.in_ok-push.ensures.ok c.going.invariant.fit;
      limits = same_limits (Ok (Some c.in-Some.commit)) c.going.self c.advance.new.self a ∙ c.going.invariant.limits;
      follows = λ start packets h. c.advance.ensures.follows start packets (c.going.invariant.follows start packets h);
    }

pub returns-in_err-push-clause-follows : goal.returns-in_err-push-clause-follows
returns-in_err-push-clause-follows c = λ start packets h. c.advance.ensures.follows start packets (c.going.invariant.follows start packets h)

pub returns-clause-commits : goal.returns-clause-commits
returns-clause-commits c =
    let a = subst (λ o. IsAdvanced c.going.self (Ok o) c.advance.new.self) c.in_default.is c.in_ok-commit.ensures.step in
    commits_behind c.args.self.now.entries c.advance.new.self.entries c.going.out (ap (λ k. k.entries) a.1 ∙ c.going.invariant.entries)

pub returns-clause-follows : goal.returns-clause-follows
returns-clause-follows c = λ start packets h. c.advance.ensures.follows start packets (c.going.invariant.follows start packets h)

pub returns-clause-end : goal.returns-clause-end
returns-clause-end c = λ start packets h.
    let a = subst (λ o. IsAdvanced c.going.self (Ok o) c.advance.new.self) c.in_default.is c.in_ok-commit.ensures.step in
    done c.going.self c.advance.new.self start packets a (c.going.invariant.follows start packets h)
