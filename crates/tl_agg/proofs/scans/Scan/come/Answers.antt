use Rattle.std.proofs.Common.{rules, subst, sym, ◌≡◌, ◌<◌, ◌^◌, ap, arith, length, Some, option_map, slice_get, pos, w64, SFits}
use Rattle.std.proofs.lemmas.Int.{to_z-of_z}
use Rattle.tl_types.specs.WellFormed.{AreWellFormed}
use Rattle.tl_store.specs.Reading.{system_period}
use Rattle.tl_index.specs.Tables.{rows_in}
use Rattle.tl_running.specs.Lasting.{Comes}
use Rattle.tl_agg.specs.Scans.{ScanOf}
use Rattle.tl_agg.specs.Extremes.{ExtremePuts}
use Rattle.tl_agg.proofs.ExtremeLemmas.{row_covered, row_put, period_ends}
use Rattle.tl_agg.proofs.scans.Scan.come.Goals as goal

pub returns-then-is_covered-clause-comes : goal.returns-then-is_covered-clause-comes
returns-then-is_covered-clause-comes g c =
    let fits : SFits w64 c.number_in-number.result = search rules in
    let whole = to_z-of_z w64 c.number_in-number.result fits in
    let formed = subst (λ (s : ScanOf). AreWellFormed s.table.db.version (rows_in s.table)) c.self.view_is c.rows.ensures.formed in
    let short : c.version-last.result < 2 ^ 32 = search rules in
    let last = ap (λ (s : ScanOf). s.table.db.version) c.self.view_is in
    let is = c.version-last.ensures in
    row_covered c.args.self.now c.args.self.now.table.db.version c.args.row c.number_in-number.result c.args.extremes.now c.requires.kind c.number_in-number.ensures.number formed (omega arith)
    (λ end l. subst (λ n. Comes c.args.extremes.now.extreme c.args.extremes.now.extreme n (pos end)) whole (c.covers-is_covered.ensures c.if-is_covered.true end l))

pub period_at-period-requires : goal.period_at-period-requires
period_at-period-requires g c = subst (λ (s : ScanOf). c.args.row < length (rows_in s.table)) (sym c.self.view_is) c.requires.row

pub returns-clause-comes : goal.returns-clause-comes
returns-clause-comes g c =
    let fits : SFits w64 c.number_in-number.result = search rules in
    let whole = to_z-of_z w64 c.number_in-number.result fits in
    let value = subst (λ (s : ScanOf). Some c.period_at-period.result ≡ option_map system_period (slice_get (rows_in s.table) c.args.row)) c.self.view_is c.period_at-period.ensures.value in
    row_put c.args.self.now c.args.row c.period_at-period.result.to c.number_in-number.result c.args.extremes.now c.put.new.self c.requires.kind c.number_in-number.ensures.number
    (period_ends (rows_in c.args.self.now.table) c.args.row c.period_at-period.result value)
    (subst (λ n. ExtremePuts c.args.extremes.now c.put.new.self n (pos c.period_at-period.result.to)) whole c.in_ok-put.ensures)
