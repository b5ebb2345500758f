use Rattle.std.proofs.Common.{◌<◌, ◌+◌, length, subst, sym, ap, ◌∙◌, refl, Some, Ok, Err}
use Rattle.std.proofs.lemmas.Result.{err_from_is_err_and}
use Rattle.tl_types.specs.Entries.{commits_of}
use Rattle.tl_follow.specs.Following.{IsWhole, commits_in}
use Rattle.tl_follow.specs.Calls.{IsAdvanced}
use Rattle.tl_follow.proofs.Advancing.{one_more, one_fits, same_limits, removed_fewer, advanced_follows, whole_for_all, end_by, halted_for_all}
use Rattle.tl_follow.proofs.follower.Follower.follow_held.Goals as goal

pub returns-in_err-next-clause-halted : goal.returns-in_err-next-clause-halted
returns-in_err-next-clause-halted c = λ start packets h.
    let p = err_from_is_err_and c.from_residual.result c.from_residual.ensures.1 in
    end_by c.from_residual.result c.in_err-next.field-0.0 c.args.self.limits c.args.self.limits start packets (p.1 ∙ ap (λ e. Err e) p.2) refl
    (halted_for_all c.in_err-next.field-0.0 c.going.follower c.going.follower c.args.self.limits start packets c.going.invariant.limits c.in_err-next.ensures.err (c.going.invariant.follows start packets h))

pub going-smaller : goal.going-smaller
going-smaller c =
    let a = subst (λ o. IsAdvanced c.going.follower (Ok o) c.in_ok-next.next) c.in-Some.is c.in_ok-next.ensures.ok in
    subst (λ k. length k.held < length c.going.follower.held) (sym a.2) (removed_fewer c.going.follower.held (length (commits_in c.going.follower) + 1) c.in-Some.commit a.0)

pub going-preserved : goal.going-preserved
going-preserved c =
    let a = subst (λ o. IsAdvanced c.going.follower (Ok o) c.in_ok-next.next) c.in-Some.is c.in_ok-next.ensures.ok in
    record {
      entries = one_more c.args.self.entries c.going.follower c.in_ok-next.next c.going.commits c.push.new.self c.in-Some.commit a c.going.invariant.entries c.in_ok-push.ensures.ok;
      fit = one_fits c.args.self.limits c.args.self.entries c.going.follower c.in_ok-next.next c.going.commits c.push.new.self c.in-Some.commit a c.going.invariant.limits c.going.invariant.entries c.in_ok-push.ensures.ok c.going.invariant.fit;
      limits = same_limits (Ok (Some c.in-Some.commit)) c.going.follower c.in_ok-next.next a ∙ c.going.invariant.limits;
      follows = λ start packets h. advanced_follows (Ok (Some c.in-Some.commit)) c.going.follower c.in_ok-next.next start packets a (c.going.invariant.follows start packets h);
    }

pub returns-clause-whole : goal.returns-clause-whole
returns-clause-whole c = λ start packets h.
    let a = subst (λ o. IsAdvanced c.going.follower (Ok o) c.in_ok-next.next) c.in_default.is c.in_ok-next.ensures.ok in
    subst (λ k. IsWhole c.args.self.limits (commits_of start) packets (commits_in k)) (sym c.follower-2.view_is)
    (whole_for_all c.going.follower c.in_ok-next.next c.args.self.limits start packets c.going.invariant.limits a (c.going.invariant.follows start packets h))
