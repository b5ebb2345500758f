use Rattle.tl_types.specs.History.{database_of}
use Rattle.tl_watch.proofs.StepLemmas.{opened_at, open_roomy, opened_one}
use Rattle.tl_watch.proofs.follows.open_at.Goals as goal

pub put_in-requires-clause-room : goal.put_in-requires-clause-room
put_in-requires-clause-room c = open_roomy c.args.plan.now (database_of c.args.before.now) c.args.change.now c.args.state.now c.args.i c.requires.ready c.requires.stands

pub returns : goal.returns
returns c =
    opened_one c.args.plan.now (database_of c.args.before.now) c.args.change.now c.args.state.now c.put_in.new.state c.args.i c.index-opens-i.result c.passes-passes.result c.requires.ready
    (opened_at c.opens.result.now c.args.change.now.opens c.args.i c.index-opens-i.result c.opens.ensures.value c.requires.place c.index-opens-i.is) c.requires.stands c.passes-passes.ensures c.if-not-passes.false c.in_ok-put_in.ensures
