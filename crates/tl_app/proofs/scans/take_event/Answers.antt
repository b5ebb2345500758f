use Rattle.std.proofs.Common.{rules, w64, SFits, pos, false, get_or, sym, subst, arith}
use Rattle.std.proofs.lemmas.Int.{to_z-of_z}
use Rattle.std.proofs.lemmas.Option.{slice_get-get_or}
use Rattle.std.proofs.lemmas.List.{take_more}
use Rattle.tl_types.specs.declared.events.ValidEvent.{ValidEvent}
use Rattle.tl_running.specs.Standing.{Changes}
use Rattle.tl_app.specs.Scans.{plan_rows, Holds}
use Rattle.tl_app.proofs.HoldLemmas.{can_take, taken}
use Rattle.tl_app.proofs.scans.take_event.Goals as goal

abbrev nothing : ValidEvent
nothing = record { time = pos 0; opens = false; row = 0 }

pub change-requires : goal.change-requires
change-requires g c =
    let fits : SFits w64 c.number_of-number.result = search rules in
    let whole = to_z-of_z w64 c.number_of-number.result fits in
    let events = c.args.scan.now.events.now in
    let is = slice_get-get_or events c.args.i nothing c.requires.some in
    let few = c.rows.ensures.few in
    let many = c.rows.ensures.number in
    rw whole (can_take (plan_rows c.args.scan.now.store.now c.args.scan.now.plan.now) c.args.scan.now.plan.now events c.args.i (get_or events c.args.i nothing) c.valid_at-period.result
    c.requires.events is c.from.ensures.some c.args.running.now c.number_of-number.result (omega arith) c.valid_at-period.ensures.value c.requires.holds c.number_of-number.ensures.number)

pub returns-clause-holds : goal.returns-clause-holds
returns-clause-holds g c =
    let fits : SFits w64 c.number_of-number.result = search rules in
    let whole = to_z-of_z w64 c.number_of-number.result fits in
    let events = c.args.scan.now.events.now in
    let rows = plan_rows c.args.scan.now.store.now c.args.scan.now.plan.now in
    let e = get_or events c.args.i nothing in
    let is = slice_get-get_or events c.args.i nothing c.requires.some in
    let changes = subst (λ n. Changes e.opens c.args.running.now c.change.new.self n) whole c.in_ok-change.ensures in
    subst (λ done. Holds rows c.args.scan.now.plan.now done c.change.new.self) (sym (take_more events c.args.i nothing c.requires.some))
    (taken rows c.args.scan.now.plan.now events c.args.i e c.valid_at-period.result c.requires.events is c.from.ensures.some
    c.args.running.now c.change.new.self c.number_of-number.result c.valid_at-period.ensures.value c.requires.holds c.number_of-number.ensures.number c.number_of-number.ensures.short changes)
