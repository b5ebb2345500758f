use Rattle.std.proofs.Common.{length, ap, arith}
use Rattle.tl_store.specs.Kept.{Kept}
use Rattle.tl_store.proofs.RowLemmas.{length-rows_in}
use Rattle.tl_store.proofs.table.TableData.rows.Goals as goal

pub returns-clause-number : goal.returns-clause-number
returns-clause-number c =
    let t = c.self.inside in
    omega (arith, c.self.invariant.few, length-rows_in t.columns.items t.periods 0 t.from t.to c.self.invariant.even, ap (λ (k : Kept). length k.rows) c.self.view_is)
