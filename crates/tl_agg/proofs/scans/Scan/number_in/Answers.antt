use Rattle.std.proofs.Common.{length, ap, arith, rules, w64, SFits, subst}
use Rattle.std.proofs.lemmas.Int.{to_z-of_z}
use Rattle.tl_index.specs.Tables.{rows_in}
use Rattle.tl_running.specs.Telling.{TellsNumber}
use Rattle.tl_agg.specs.Scans.{ScanOf}
use Rattle.tl_agg.proofs.NumberLemmas.{column_tells, column_long}
use Rattle.tl_agg.proofs.scans.Scan.number_in.Goals as goal

pub at-requires : goal.at-requires
at-requires g c =
    let s = c.self.inside in
    let are = c.self.invariant.are in
    let is = c.in-Some.is in
    let long = column_long (rows_in s.table) s.plan.column s.numbers c.in-Some.cells are is in
    let rows = ap (λ (s : ScanOf). length (rows_in s.table)) c.self.view_is in
    let r = c.requires in
    omega arith

pub returns-in-Some-clause-number : goal.returns-in-Some-clause-number
returns-in-Some-clause-number g c =
    let s = c.self.inside in
    let are = c.self.invariant.are in
    let is = c.in-Some.is in
    let fits : SFits w64 c.at.result = search rules in
    let whole = to_z-of_z w64 c.at.result fits in
    rw whole (subst (λ (s : ScanOf). TellsNumber s.plan.kind s.plan.column (rows_in s.table) c.args.row c.at.result) c.self.view_is
    (column_tells s.plan.kind (rows_in s.table) c.args.row s.plan.column s.numbers c.in-Some.cells c.at.result are is c.at.ensures.value))
