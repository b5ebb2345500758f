use Rattle.std.proofs.Common.{refl, ap, arith}
use Rattle.tl_store.specs.Kept.{Kept}
use Rattle.tl_store.proofs.RowLemmas.{rows_number, row_at}
use Rattle.tl_store.proofs.table.TableData.period_at.Goals as goal

pub at-requires : goal.at-requires
at-requires c =
    let t = c.self.inside in
    omega (arith, c.requires, rows_number t.columns.items t.periods t.from t.to c.args.self.now.rows (ap (λ (k : Kept). k.rows) c.self.view_is) c.self.invariant.even)

pub at-requires-2 : goal.at-requires-2
at-requires-2 c =
    let t = c.self.inside in
    omega (arith, c.requires, c.self.invariant.even, rows_number t.columns.items t.periods t.from t.to c.args.self.now.rows (ap (λ (k : Kept). k.rows) c.self.view_is) c.self.invariant.even)

pub returns : goal.returns
returns c =
    let t = c.self.inside in
    let rows = ap (λ (k : Kept). k.rows) c.self.view_is in
    let number = rows_number t.columns.items t.periods t.from t.to c.args.self.now.rows rows c.self.invariant.even in
    let row = row_at t.columns.items t.periods t.from t.to c.args.self.now.rows c.args.row c.at.result.now c.at-2.result.now rows c.self.invariant.even (omega (arith, c.requires, number)) in
    rw (row, ← c.at.ensures, ← c.at-2.ensures) refl
