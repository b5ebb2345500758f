use Rattle.std.proofs.Common.{◌≡◌, ℕ, zero, suc, ◌≤◌, ◌++◌, List, [], ◌∷◌, length, map, refl, sym, ap, ◌∙◌, arith}
use Rattle.std.proofs.lemmas.List.{append-nil}
use Rattle.tl_types.specs.Plain as plain
use Rattle.tl_query.specs.Fields.{cell_field}
use Rattle.tl_query.specs.Answers.{cells_with}
use Rattle.tl_plain.proofs.joins.add_row.Goals as goal

-- no row stands past the end
no_cells : (rows : List plain.Row) (id : ℕ) → length rows ≤ id → cells_with rows id ≡ []
no_cells [] id h = refl
no_cells (row ∷ rows) zero h = absurd (omega arith)
no_cells (row ∷ rows) (suc id) h = no_cells rows id (omega arith)

pub returns-else-id-rows : goal.returns-else-id-rows
returns-else-id-rows c =
    sym (ap (λ cells. c.args.fields.now.items ++ map cell_field cells) (no_cells c.args.rows.now c.args.id (omega arith)) ∙ append-nil c.args.fields.now.items)
