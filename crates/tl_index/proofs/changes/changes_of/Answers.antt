use Rattle.std.proofs.Common.{◌≡◌, arith, length}
use Rattle.tl_types.specs.Walks.{events_between}
use Rattle.tl_index.specs.Tables.{rows_in}
use Rattle.tl_index.specs.Changes.{chosen_change_of}
use Rattle.tl_index.proofs.LapseLemmas.{lapse_within, none_taken, run_rows, changes_more, all_taken}
use Rattle.tl_index.proofs.changes.changes_of.Goals as goal

pub runs-init : goal.runs-init
runs-init g c =
    let inside = lapse_within c.args.table.now c.events-events.result.now c.args.lapse.now c.events-events.ensures.events c.requires.lapse in
    record {
      list = none_taken (chosen_change_of c.args.choice.now (rows_in c.args.table.now) c.args.lapse.now.old c.args.lapse.now.new) c.events-events.result.now c.args.lapse.now.from c.new-changes.result.items (omega (arith, inside.ordered, inside.within)) c.new-changes.ensures.items;
      begun = omega arith;
      within = inside.ordered;
      steps = omega arith;
    }

pub run-run-requires-clause-within : goal.run-run-requires-clause-within
run-run-requires-clause-within g c = (lapse_within c.args.table.now c.events-events.result.now c.args.lapse.now c.events-events.ensures.events c.requires.lapse).within

pub push_changes-requires-clause-rows : goal.push_changes-requires-clause-rows
push_changes-requires-clause-rows g c =
    let inside = lapse_within c.args.table.now c.events-events.result.now c.args.lapse.now c.events-events.ensures.events c.requires.lapse in
    run_rows (rows_in c.args.table.now) c.events-events.result.now c.run-run.result.now c.runs.at (length c.run-run.result.now) c.run-run.ensures.run inside.rows_are

pub runs-preserved : goal.runs-preserved
runs-preserved g c =
    let inside = lapse_within c.args.table.now c.events-events.result.now c.args.lapse.now c.events-events.ensures.events c.requires.lapse in
    let before = c.runs.invariant in
    let run = c.run-run.ensures in
    let pushed = c.push_changes.ensures.steps in
    record {
      list = changes_more (chosen_change_of c.args.choice.now (rows_in c.args.table.now) c.args.lapse.now.old c.args.lapse.now.new) c.events-events.result.now c.run-run.result.now c.args.lapse.now.from c.runs.at (length c.run-run.result.now) c.runs.changes.items c.push_changes.new.changes.items before.begun (omega (arith, before.within, inside.within)) run.run c.in_ok-push_changes.ensures.list before.list;
      begun = omega (arith, before.begun);
      within = omega (arith, run.within);
      steps = omega (arith, before.steps, run.steps, pushed);
    }

pub returns-clause-list : goal.returns-clause-list
returns-clause-list g c =
    let inside = lapse_within c.args.table.now c.events-events.result.now c.args.lapse.now c.events-events.ensures.events c.requires.lapse in
    let before = c.runs.invariant in
    let end : c.runs.at ≡ c.args.lapse.now.to = omega (arith, before.within, c.runs-test.false) in
    all_taken (chosen_change_of c.args.choice.now (rows_in c.args.table.now) c.args.lapse.now.old c.args.lapse.now.new) c.events-events.result.now (events_between (rows_in c.args.table.now) c.args.lapse.now.old c.args.lapse.now.new) c.args.lapse.now.from c.args.lapse.now.to c.runs.at c.runs.changes.items before.list end inside.between
