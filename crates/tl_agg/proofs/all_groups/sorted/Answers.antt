use Rattle.std.proofs.Common.{refl, Some}
use Rattle.tl_agg.proofs.CellLemmas.{changed_at}
use Rattle.tl_agg.proofs.PlaceLemmas.{one_taken}
use Rattle.tl_agg.proofs.all_groups.sorted.Goals as goal

pub groups-preserved-in_ok-insert : goal.groups-preserved-in_ok-insert
groups-preserved-in_ok-insert c =
    one_taken c.args.groups.items c.groups.groups.items c.pop.new.self.items c.groups.sorted.entries c.insert.new.self.entries c.in-Some.group c.in_ok-value.value c.in_ok-value.group c.groups.invariant c.in-Some.ensures.items c.in_ok-value.ensures
    (changed_at c.in_ok-value.value c.in_ok-value.value (Some c.in_ok-value.group) c.groups.sorted.entries c.insert.new.self.entries c.groups.sorted.entries refl c.in_ok-insert.ensures.updates.0 refl)

pub groups-preserved : goal.groups-preserved
groups-preserved c =
    one_taken c.args.groups.items c.groups.groups.items c.pop.new.self.items c.groups.sorted.entries c.insert.new.self.entries c.in-Some.group c.in_ok-value.value c.in_ok-value.group c.groups.invariant c.in-Some.ensures.items c.in_ok-value.ensures
    (changed_at c.in_ok-value.value c.in_ok-value.value (Some c.in_ok-value.group) c.groups.sorted.entries c.insert.new.self.entries c.groups.sorted.entries refl c.in_ok-insert.ensures.updates.0 refl)
