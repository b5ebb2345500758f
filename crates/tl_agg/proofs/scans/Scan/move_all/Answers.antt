use Rattle.std.proofs.Common.{rules, w64, SFits, ap, arith, subst, length, ◌∙◌}
use Rattle.std.proofs.lemmas.Int.{to_z-of_z}
use Rattle.tl_index.specs.Tables.{rows_in}
use Rattle.tl_agg.specs.Groups.{Shifts}
use Rattle.tl_agg.specs.Scans.{ScanOf}
use Rattle.tl_agg.proofs.StepLemmas.{can_take, takes_shifted}
use Rattle.tl_agg.proofs.scans.Scan.move_all.Goals as goal

pub shift-requires : goal.shift-requires
shift-requires g c =
    let fits : SFits w64 c.number_in-number.result = search rules in
    let whole = to_z-of_z w64 c.number_in-number.result fits in
    let table = ap (λ (s : ScanOf). length (rows_in s.table)) c.self.view_is in
    let n = c.rows.ensures.number in
    let m = c.rows.ensures.few in
    rw whole (can_take c.args.self.now c.args.at c.args.event c.args.groups.now c.requires.single (omega arith) c.requires.kept c.requires.ready c.number_in-number.result c.number_in-number.ensures.number)

pub returns-clause-takes : goal.returns-clause-takes
returns-clause-takes g c =
    let fits : SFits w64 c.number_in-number.result = search rules in
    let whole = to_z-of_z w64 c.number_in-number.result fits in
    takes_shifted c.args.self.now c.args.at c.args.event c.args.groups.now c.shift.new.self c.number_in-number.result c.requires.single c.requires.kept c.number_in-number.ensures.number c.number_in-number.ensures.short c.requires.since (subst (λ n. Shifts c.args.groups.now.all c.shift.new.self.all c.args.event.opens n) whole c.in_ok-shift.ensures)

pub returns-clause-since : goal.returns-clause-since
returns-clause-since g c = c.in_ok-shift.ensures.since ∙ c.requires.since
