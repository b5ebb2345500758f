use Rattle.tl_agg.proofs.ByLemmas.{advanced_push}
use Rattle.tl_agg.proofs.CellLemmas.{rises_keys}
use Rattle.tl_agg.proofs.all_groups.all_runs.Goals as goal

pub loop-value-preserved-in_ok-push_runs : goal.loop-value-preserved-in_ok-push_runs
loop-value-preserved-in_ok-push_runs c = advanced_push c.loop-value.yielded c.args.to c.loop-value.all.items c.push_runs.new.all.items c.in-Some.value c.in-Some.group c.in_ok-advanced.field-0.items c.loop-value.invariant c.in_ok-advanced.ensures c.in_ok-push_runs.ensures

pub loop-value-preserved-in_ok-push_runs-2 : goal.loop-value-preserved-in_ok-push_runs-2
loop-value-preserved-in_ok-push_runs-2 c = advanced_push c.loop-value.yielded c.args.to c.loop-value.all.items c.push_runs.new.all.items c.in-Some.value c.in-Some.group c.in_ok-advanced.field-0.items c.loop-value.invariant c.in_ok-advanced.ensures c.in_ok-push_runs.ensures

pub loop-value-preserved : goal.loop-value-preserved
loop-value-preserved c = advanced_push c.loop-value.yielded c.args.to c.loop-value.all.items c.push_runs.new.all.items c.in-Some.value c.in-Some.group c.in_ok-advanced.field-0.items c.loop-value.invariant c.in_ok-advanced.ensures c.in_ok-push_runs.ensures

pub returns-clause-order : goal.returns-clause-order
returns-clause-order c = rises_keys c.args.groups.entries c.into_iter-value-iterator.ensures.into_iter_gives.5
