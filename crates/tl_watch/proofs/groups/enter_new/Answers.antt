use Rattle.std.proofs.Common.{Some, refl, subst, w64}
use Rattle.std.proofs.lemmas.Int.{to_z-of_z}
use Rattle.tl_running.specs.Standing.{Enters}
use Rattle.tl_agg.proofs.CellLemmas.{changed_at}
use Rattle.tl_watch.proofs.PlaceLemmas.{none_room, enters_new}
use Rattle.tl_watch.proofs.groups.enter_new.Goals as goal

pub enter-requires : goal.enter-requires
enter-requires c = none_room c.none-numbers.result c.none-numbers.ensures.stands

pub returns : goal.returns
returns c =
    enters_new c.args.kind c.args.value.now c.args.by.now.entries c.insert.new.self.entries c.none-numbers.result c.enter.new.self c.args.number c.requires c.none-numbers.ensures.kind c.none-numbers.ensures.stands (subst (Enters c.none-numbers.result c.enter.new.self) (to_z-of_z w64 c.args.number c.ranges.number) c.in_ok-enter.ensures)
    (changed_at c.args.value.now c.in_ok-key.key (Some c.enter.new.self) c.args.by.now.entries c.insert.new.self.entries c.args.by.now.entries c.in_ok-key.ensures.cases c.in_ok-insert.ensures.updates.0 refl)
