use Rattle.std.proofs.Common.{◌≤◌, arith, length}
use Rattle.tl_index.proofs.WalkLemmas.{run_in, walk_more, walk_begins}
use Rattle.tl_index.proofs.walks.walk.Goals as goal

pub runs-init : goal.runs-init
runs-init g c = record { set = walk_begins c.args.set.now c.args.events.now c.args.from; begun = omega arith; within = c.requires.ordered; steps = omega arith }

pub put_events-requires : goal.put_events-requires
put_events-requires g c = run_in c.args.set.now c.runs.set c.args.events.now c.run-run.result.now c.args.from c.runs.at (length c.run-run.result.now) c.run-run.ensures.run c.runs.invariant.set c.requires.rows

pub runs-preserved : goal.runs-preserved
runs-preserved g c =
    let before = c.runs.invariant in
    let run = c.run-run.ensures in
    let count = length c.run-run.result.now in
    let inside : c.runs.at ≤ length c.args.events.now = omega (arith, before.within, c.requires.within) in
    record {
      set = walk_more c.args.set.now c.runs.set c.put_events.new.set c.args.events.now c.run-run.result.now c.args.from c.runs.at count before.begun inside run.run before.set c.put_events.ensures;
      begun = omega (arith, before.begun);
      within = omega (arith, run.within);
      steps = omega (arith, before.steps, run.steps);
    }
