use Rattle.std.proofs.Common.{rules, ◌∙◌, ap, sym, arith, subst}
use mathlib.Core.List.{IsPrefix}
use Rattle.tl_session.specs.Phases.{AllSeenIn, parts_of, amounts_of}
use Rattle.tl_engine.proofs.CountLemmas.{begins_on}
use Rattle.tl_session.proofs.SharedLemmas.{one_left, parts_more, amounts_more, seen_more, all_taken_in}
use Rattle.tl_session.proofs.phases.take_in.Goals as goal

pub loop-session-preserved : goal.loop-session-preserved
loop-session-preserved g c =
    let xs = c.loop-session.sessions.items in
    let ys = c.pop.new.self.items in
    let x = c.in-Some.session in
    let i = c.loop-session.invariant in
    let now = c.learn.new.self.seen in
    let split = one_left xs ys x c.pop.result c.pop.ensures.items c.in-Some.is in
    let parts = c.into_parts-theirs.ensures.parts in
    let amount = c.into_parts-theirs.ensures.amount in
    let seen = c.into_parts-theirs.ensures.seen in (
      c.learn.ensures.own ∙ i.0,
      omega (arith, i.1, c.merge.ensures.parts, parts, ap parts_of split, parts_more ys x),
      omega (arith, i.2, c.merge.ensures.amount, amount, ap amounts_of split, amounts_more ys x),
      λ all p a. i.3 all (begins_on c.loop-session.pass.seen now all c.learn.ensures.own_prefix p) (subst (AllSeenIn all) (sym split) (seen_more all ys x a (begins_on x.access.seen now all (subst (λ l. IsPrefix l now) seen c.learn.ensures.other_prefix) p))),
    )

pub returns-clause-later : goal.returns-clause-later
returns-clause-later g c = (all_taken_in c.loop-session.pass.seen c.args.pass.now.seen c.loop-session.sessions.items c.args.sessions.items (search rules) c.loop-session.invariant.3).0

pub returns-clause-seen : goal.returns-clause-seen
returns-clause-seen g c = (all_taken_in c.loop-session.pass.seen c.args.pass.now.seen c.loop-session.sessions.items c.args.sessions.items (search rules) c.loop-session.invariant.3).1
