use Rattle.std.proofs.Common.{◌≡◌, length, Some, true, ap, sym, ◌∙◌, arith}
use Rattle.std.specs.Option.{option_map}
use Rattle.tl_types.specs.Plain as plain
use Rattle.tl_store.specs.Kept.{Kept}
use Rattle.tl_store.proofs.RowLemmas.{rows_number, row_at}
use Rattle.tl_store.proofs.table.TableData.valid_at.Goals as goal

pub at-requires : goal.at-requires
at-requires c =
    let t = c.self.inside in
    let rows = ap (λ (k : Kept). k.rows) c.self.view_is in
    let number = rows_number t.columns.items t.periods t.from t.to c.args.self.now.rows rows c.self.invariant.even in
    let valid : t.schema.value.valid ≡ true = ap (λ (k : Kept). k.schema.valid) c.self.view_is ∙ c.requires.valid in
    let many : length t.periods ≡ length t.from = rw valid at c.self.invariant.valid in
    omega (arith, c.requires.row, number, many)

pub returns : goal.returns
returns c =
    let t = c.self.inside in
    let rows = ap (λ (k : Kept). k.rows) c.self.view_is in
    let number = rows_number t.columns.items t.periods t.from t.to c.args.self.now.rows rows c.self.invariant.even in
    let row = row_at t.columns.items t.periods t.from t.to c.args.self.now.rows c.args.row 0 0 rows c.self.invariant.even (omega (arith, c.requires.row, number)) in
    ap Some c.at.ensures ∙ ap (option_map (λ (r : plain.Row). r.period)) (sym row)
