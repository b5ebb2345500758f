use Rattle.std.proofs.Common.{length, ap, arith, rules, w64, SFits, subst, refl, Some, ◌∙◌}
use Rattle.std.proofs.lemmas.Int.{to_z-of_z}
use Rattle.tl_types.specs.declared.cells.Cell.TheVariants as cell
use Rattle.tl_agg.specs.Columns.{HasKey}
use Rattle.tl_index.specs.Tables.{rows_in}
use Rattle.tl_agg.specs.Scans.{ScanOf}
use Rattle.tl_agg.proofs.NumberLemmas.{column_long}
use Rattle.tl_agg.proofs.TallyLemmas.{keys_are, key_told}
use Rattle.tl_agg.proofs.scans.Scan.key_in.Goals as goal

pub at-requires : goal.at-requires
at-requires g c =
    let s = c.self.inside in
    let are = keys_are (rows_in s.table) s.plan.by s.keys c.in-Some.cells c.self.invariant.keys c.in-Some.is in
    let long = column_long (rows_in s.table) s.plan.by (Some c.in-Some.cells) c.in-Some.cells are refl in
    let rows = ap (λ (s : ScanOf). length (rows_in s.table)) c.self.view_is in
    let r = c.requires.row in
    omega arith

pub returns-in-Some-clause-key : goal.returns-in-Some-clause-key
returns-in-Some-clause-key g c =
    let s = c.self.inside in
    let fits : SFits w64 c.at.result = search rules in
    let whole = to_z-of_z w64 c.at.result fits in
    let rows = ap (λ (s : ScanOf). length (rows_in s.table)) c.self.view_is in
    let r = c.requires.row in
    let by = ap (λ (s : ScanOf). s.plan.by) c.self.view_is ∙ c.requires.by in
    rw whole (subst (λ (s : ScanOf). HasKey (rows_in s.table) c.args.row c.args.by (cell.Int c.at.result)) c.self.view_is
    (key_told (rows_in s.table) c.args.row c.args.by s.plan.by s.keys c.in-Some.cells c.at.result by c.self.invariant.keys c.in-Some.is (omega arith) c.at.ensures.value))
