use Rattle.std.proofs.Common.{◌∙◌, ◌++◌, ap, sym, map, arith}
use Rattle.std.proofs.lemmas.List.{append-nil}
use Rattle.tl_types.specs.History.{database_of, rows_of}
use Rattle.tl_query.specs.Fields.{cell_field}
use Rattle.tl_exec.proofs.FullLemmas.{no_cells}
use Rattle.tl_exec.proofs.shown_pairs.add_cells.Goals as goal

pub returns-else-row-rows-clause-cells : goal.returns-else-row-rows-clause-cells
returns-else-row-rows-clause-cells g c =
    let few = c.rows.ensures.number in
    sym (ap (λ cells. c.args.rows.now.row ++ map cell_field cells) (no_cells (rows_of (database_of c.args.store.now) c.args.table) c.args.row (omega arith)) ∙ append-nil c.args.rows.now.row)
