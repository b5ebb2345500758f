use Rattle.tl_types.proofs.KindLemmas.{kinds_same, kinds_apart}
use Rattle.tl_types.proofs.matching.match_columns.Goals as goal

pub returns-then-cells-columns : goal.returns-then-cells-columns
returns-then-cells-columns c = kinds_same c.args.columns.now c.args.cells.now c.kinds_of_cells.result c.args.kinds c.if-cells-columns.true c.kinds_of_cells.ensures c.requires.kinds

pub returns-else-cells-columns : goal.returns-else-cells-columns
returns-else-cells-columns c = kinds_apart c.args.columns.now c.args.cells.now c.if-cells-columns.false
