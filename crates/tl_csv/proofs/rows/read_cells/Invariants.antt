use Rattle.std.proofs.Common.{◌≡◌, length, drop}
use Rattle.std.specs.List.{zip}
use Rattle.csv.specs.Records.{fields_of}
use Rattle.tl_csv.specs.Faults.{each_from}
use Rattle.tl_csv.specs.Block.{cell_at}
use Rattle.tl_csv.proofs.FaultLemmas.{behind}
use Rattle.tl_csv.proofs.rows.read_cells.Given as goal

abbrev pub invariant-fields : goal.invariant-fields
invariant-fields l =
    behind l.cells.items (each_from (cell_at l.limits l.first.rec) l.place (zip l.rest (drop l.place (fields_of l.row))))
    ≡ each_from (cell_at l.limits l.first.rec) l.first.place (zip l.kinds (drop l.first.place (fields_of l.row)))

abbrev pub decreases-fields : goal.decreases-fields
decreases-fields l = length l.rest
