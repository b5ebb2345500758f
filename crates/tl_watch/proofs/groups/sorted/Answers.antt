use Rattle.std.proofs.Common.{refl, Some}
use Rattle.tl_agg.proofs.CellLemmas.{changed_at}
use Rattle.tl_watch.proofs.GatherLemmas.{one_sorted}
use Rattle.tl_watch.proofs.groups.sorted.Goals as goal

pub values-preserved-in_ok-insert : goal.values-preserved-in_ok-insert
values-preserved-in_ok-insert c =
    one_sorted c.args.values.items c.values.values.items c.pop.new.self.items c.values.sorted.entries c.insert.new.self.entries c.in-Some.group c.in_ok-value.value c.in_ok-value.numbers c.values.invariant c.in-Some.ensures.items c.in_ok-value.ensures.value c.in_ok-value.ensures.kept
    (changed_at c.in_ok-value.value c.in_ok-value.value (Some c.in_ok-value.numbers) c.values.sorted.entries c.insert.new.self.entries c.values.sorted.entries refl c.in_ok-insert.ensures.updates.0 refl)

pub values-preserved : goal.values-preserved
values-preserved c =
    one_sorted c.args.values.items c.values.values.items c.pop.new.self.items c.values.sorted.entries c.insert.new.self.entries c.in-Some.group c.in_ok-value.value c.in_ok-value.numbers c.values.invariant c.in-Some.ensures.items c.in_ok-value.ensures.value c.in_ok-value.ensures.kept
    (changed_at c.in_ok-value.value c.in_ok-value.value (Some c.in_ok-value.numbers) c.values.sorted.entries c.insert.new.self.entries c.values.sorted.entries refl c.in_ok-insert.ensures.updates.0 refl)
