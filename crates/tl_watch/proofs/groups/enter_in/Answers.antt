use Rattle.std.proofs.Common.{Some, None, refl, subst, w64, sym, ap, ◌∙◌}
use Rattle.std.specs.Prelude.{is_some}
use Rattle.std.proofs.lemmas.Int.{to_z-of_z}
use Rattle.tl_running.specs.Standing.{Enters}
use Rattle.tl_watch.specs.Groups.{group_of}
use Rattle.tl_agg.proofs.CellLemmas.{changed_at, found_is}
use Rattle.tl_watch.proofs.PlaceLemmas.{found_room, enters_found}
use Rattle.tl_watch.proofs.groups.enter_in.Goals as goal

pub enter_new-requires : goal.enter_new-requires
enter_new-requires c = ap (λ m. group_of m.entries c.args.value.now) c.get_mut.follows.holds-at-none ∙ sym (found_is c.args.value.now c.args.by.now.entries c.args.by.now.entries None c.in_default.ensures.value refl)

pub enter-requires : goal.enter-requires
enter-requires c = found_room _ c.in-Some.numbers.now c.requires (found_is c.args.value.now c.args.by.now.entries c.args.by.now.entries (Some c.in-Some.numbers.now) c.in-Some.ensures.value refl)

pub returns : goal.returns
returns c =
    enters_found c.args.kind c.args.value.now c.args.by.now.entries (c.get_mut.follows.lender c.enter.new.self).entries c.in-Some.numbers.now c.enter.new.self c.args.number
    (found_is c.args.value.now c.args.by.now.entries c.args.by.now.entries (Some c.in-Some.numbers.now) c.in-Some.ensures.value refl) (subst (Enters c.in-Some.numbers.now c.enter.new.self) (to_z-of_z w64 c.args.number c.ranges.number) c.in_ok-enter.ensures)
    (changed_at c.args.value.now c.args.value.now (Some c.enter.new.self) c.args.by.now.entries (c.get_mut.follows.lender c.enter.new.self).entries c.args.by.now.entries refl (((c.get_mut.follows.holds c.enter.new.self).3 (ap is_some (sym c.in-Some.ensures.value))).0) refl)
