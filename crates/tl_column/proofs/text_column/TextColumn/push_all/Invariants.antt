use Rattle.std.proofs.Common.{◌≡◌, length, take}
use Rattle.tl_column.specs.Dictionary.{lent_texts}
use Rattle.tl_column.proofs.text_column.TextColumn.push_all.Given as goal

abbrev pub invariant-loop-cell : goal.invariant-loop-cell
invariant-loop-cell l = record {
  texts : lent_texts l.lent.items ≡ take l.cell-index l.cells;
  number : length l.lent.items ≡ l.cell-index;
}
