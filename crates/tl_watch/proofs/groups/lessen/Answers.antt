use Rattle.std.proofs.Common.{Some, None, refl, subst, w64, sym, ap}
use Rattle.std.specs.Prelude.{is_some}
use Rattle.std.proofs.lemmas.Int.{to_z-of_z}
use Rattle.tl_running.specs.Standing.{CanLeave, Enters}
use Rattle.tl_agg.proofs.CellLemmas.{changed_at, found_is}
use Rattle.tl_watch.proofs.PlaceLemmas.{found_can, found_none, lessens_found}
use Rattle.tl_watch.proofs.groups.lessen.Goals as goal

pub unreachable-requires : goal.unreachable-requires
unreachable-requires c = found_none _ c.args.number c.requires (found_is c.args.value.now c.args.by.now.entries c.args.by.now.entries None c.in_default.ensures.value refl)

pub leave-requires : goal.leave-requires
leave-requires c = subst (CanLeave c.in-Some.numbers.now) (sym (to_z-of_z w64 c.args.number c.ranges.number)) (found_can _ c.in-Some.numbers.now c.args.number c.requires (found_is c.args.value.now c.args.by.now.entries c.args.by.now.entries (Some c.in-Some.numbers.now) c.in-Some.ensures.value refl))

pub returns : goal.returns
returns c =
    lessens_found c.args.value.now c.args.by.now.entries (c.get_mut.follows.lender c.leave.new.self).entries c.in-Some.numbers.now c.leave.new.self c.args.number c.count.result
    (found_is c.args.value.now c.args.by.now.entries c.args.by.now.entries (Some c.in-Some.numbers.now) c.in-Some.ensures.value refl) (subst (Enters c.leave.new.self c.in-Some.numbers.now) (to_z-of_z w64 c.args.number c.ranges.number) c.leave.ensures) c.count.ensures
    (changed_at c.args.value.now c.args.value.now (Some c.leave.new.self) c.args.by.now.entries (c.get_mut.follows.lender c.leave.new.self).entries c.args.by.now.entries refl (((c.get_mut.follows.holds c.leave.new.self).3 (ap is_some (sym c.in-Some.ensures.value))).0) refl)
