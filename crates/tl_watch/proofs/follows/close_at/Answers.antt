use Rattle.std.proofs.Common.{get_or}
use Rattle.tl_types.specs.History.{database_of}
use Rattle.tl_watch.proofs.StepLemmas.{id_at, close_within, close_leaving, closed_one, closed_out}
use Rattle.tl_watch.proofs.follows.close_at.Goals as goal

pub new-row-requires : goal.new-row-requires
new-row-requires g c =
    close_within c.args.plan.now (database_of c.args.before.now) c.args.change.now c.args.i (get_or c.closes.result.now c.args.i 0) c.requires.ready
    (id_at c.closes.result.now c.args.change.now.closes c.args.i c.closes.ensures.value c.requires.place)

pub returns-then-not-passes-clause-stands : goal.returns-then-not-passes-clause-stands
returns-then-not-passes-clause-stands g c =
    closed_out c.args.plan.now (database_of c.args.before.now) c.args.change.now c.args.state.now c.args.i (get_or c.closes.result.now c.args.i 0) c.new-row.result c.passes-passes.result c.requires.ready
    (id_at c.closes.result.now c.args.change.now.closes c.args.i c.closes.ensures.value c.requires.place) c.new-row.ensures c.requires.stands c.passes-passes.ensures.passes c.if-not-passes.true

pub take_out-requires-clause-leaving : goal.take_out-requires-clause-leaving
take_out-requires-clause-leaving g c =
    close_leaving c.args.plan.now (database_of c.args.before.now) c.args.change.now c.args.state.now c.args.i (get_or c.closes.result.now c.args.i 0) c.new-row.result c.passes-passes.result c.requires.ready
    (id_at c.closes.result.now c.args.change.now.closes c.args.i c.closes.ensures.value c.requires.place) c.new-row.ensures c.requires.stands c.passes-passes.ensures.passes c.if-not-passes.false

pub returns-clause-stands : goal.returns-clause-stands
returns-clause-stands g c =
    closed_one c.args.plan.now (database_of c.args.before.now) c.args.change.now c.args.state.now c.take_out.new.state c.args.i (get_or c.closes.result.now c.args.i 0) c.new-row.result c.passes-passes.result c.requires.ready
    (id_at c.closes.result.now c.args.change.now.closes c.args.i c.closes.ensures.value c.requires.place) c.new-row.ensures c.requires.stands c.passes-passes.ensures.passes c.if-not-passes.false c.in_ok-take_out.ensures.leaves
