use Rattle.std.proofs.Common.{[], ◌∷◌, ◌++◌, ◌+◌, ◌∙◌, arith}
use Rattle.tl_types.specs.declared.commits.Body.TheVariants as body
use Rattle.tl_types.specs.declared.commits.Commit.{Commit}
use Rattle.tl_types.specs.History.{database_of}
use Rattle.tl_watch.proofs.WatchLemmas.{rest_stands, done_more, rest_more, counted_more, plans_long, first_within, all_done}
use Rattle.tl_watch.proofs.watch.follow_all.Goals as goal

pub follow_at-requires-clause-stands : goal.follow_at-requires-clause-stands
follow_at-requires-clause-stands g c = rest_stands c.args.plans.now.items c.loop-i.plans.items c.loop-i.i (database_of c.args.before.now) c.requires.stands c.loop-i.invariant.rest

pub returns-in_err-follow_at-clause-steps : goal.returns-in_err-follow_at-clause-steps
returns-in_err-follow_at-clause-steps g c =
    let long = plans_long c.loop-i.plans.items c.args.plans.now.items c.loop-i.invariant.plans in
    let test = c.loop-i-test.true in
    let end = c.len-i-end.ensures in
    first_within (body.Change c.args.change.now) c.args.plans.now.items (c.loop-i.i + 1) c.args.steps.now c.follow_at.new.steps
    (counted_more (body.Change c.args.change.now) c.args.plans.now.items c.loop-i.plans.items c.loop-i.i c.args.steps.now c.loop-i.steps c.follow_at.new.steps (omega arith) c.loop-i.invariant.rest c.follow_at.ensures.steps c.loop-i.invariant.steps)

pub loop-i-preserved : goal.loop-i-preserved
loop-i-preserved g c =
    let commit : Commit = record { author = c.args.author; body = body.Change c.args.change.now } in
    let db = database_of (c.args.before.now ++ commit ∷ []) in
    let long = plans_long c.loop-i.plans.items c.args.plans.now.items c.loop-i.invariant.plans in
    let test = c.loop-i-test.true in
    let end = c.len-i-end.ensures in record {
      plans = c.follow_at.ensures.plans ∙ c.loop-i.invariant.plans;
      done = done_more c.loop-i.plans.items c.follow_at.new.plans.items c.loop-i.i db c.in_ok-follow_at.ensures.ok c.loop-i.invariant.done;
      rest = rest_more c.args.plans.now.items c.loop-i.plans.items c.follow_at.new.plans.items c.loop-i.i db c.in_ok-follow_at.ensures.ok c.loop-i.invariant.rest;
      steps = counted_more (body.Change c.args.change.now) c.args.plans.now.items c.loop-i.plans.items c.loop-i.i c.args.steps.now c.loop-i.steps c.follow_at.new.steps (omega arith) c.loop-i.invariant.rest c.follow_at.ensures.steps c.loop-i.invariant.steps;
    }

pub returns-clause-ok : goal.returns-clause-ok
returns-clause-ok g c =
    let commit : Commit = record { author = c.args.author; body = body.Change c.args.change.now } in
    let long = plans_long c.loop-i.plans.items c.args.plans.now.items c.loop-i.invariant.plans in
    let test = c.loop-i-test.false in
    let end = c.len-i-end.ensures in
    all_done c.loop-i.plans.items c.loop-i.i (database_of (c.args.before.now ++ commit ∷ [])) (omega arith) c.loop-i.invariant.done
