use Rattle.std.proofs.Common.{length, refl}
use Rattle.std.proofs.lemmas.Option.{slice_get_read}
use Rattle.tl_types.specs.declared.commits.Body.TheVariants as body
use Rattle.tl_watch.proofs.WatchLemmas.{plans_set, steps_there}
use Rattle.tl_watch.proofs.watch.follow_at.Goals as goal

pub follow-requires-clause-stands : goal.follow-requires-clause-stands
follow-requires-clause-stands g c =
    let there = slice_get_read c.args.plans.now.items (length c.args.plans.now.items) c.args.i c.index_mut.result.now refl c.requires.place c.index_mut.ensures.value in
    c.requires.stands c.index_mut.result.now there

pub returns-in_err-follow-clause-plans : goal.returns-in_err-follow-clause-plans
returns-in_err-follow-clause-plans g c =
    let there = slice_get_read c.args.plans.now.items (length c.args.plans.now.items) c.args.i c.index_mut.result.now refl c.requires.place c.index_mut.ensures.value in
    plans_set c.args.plans.now.items c.args.i c.index_mut.result.now c.follow.new.self there c.follow.ensures.plan

pub returns-in_err-follow-clause-steps : goal.returns-in_err-follow-clause-steps
returns-in_err-follow-clause-steps g c =
    let there = slice_get_read c.args.plans.now.items (length c.args.plans.now.items) c.args.i c.index_mut.result.now refl c.requires.place c.index_mut.ensures.value in
    steps_there c.args.plans.now.items c.args.i c.index_mut.result.now (body.Change c.args.change.now) c.args.steps.now c.follow.new.steps there c.follow.ensures.steps

pub returns-clause-plans : goal.returns-clause-plans
returns-clause-plans g c =
    let there = slice_get_read c.args.plans.now.items (length c.args.plans.now.items) c.args.i c.index_mut.result.now refl c.requires.place c.index_mut.ensures.value in
    plans_set c.args.plans.now.items c.args.i c.index_mut.result.now c.follow.new.self there c.follow.ensures.plan

pub returns-clause-steps : goal.returns-clause-steps
returns-clause-steps g c =
    let there = slice_get_read c.args.plans.now.items (length c.args.plans.now.items) c.args.i c.index_mut.result.now refl c.requires.place c.index_mut.ensures.value in
    steps_there c.args.plans.now.items c.args.i c.index_mut.result.now (body.Change c.args.change.now) c.args.steps.now c.follow.new.steps there c.follow.ensures.steps
