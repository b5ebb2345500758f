use Rattle.std.proofs.Common.{◌≡◌, length, drop}
use Rattle.std.specs.List.{zip}
use Rattle.csv.specs.Records.{fields_of}
use Rattle.tl_csv.specs.Faults.{each_from}
use Rattle.tl_csv.specs.Block.{cell_at}
use Rattle.tl_csv.proofs.FaultLemmas.{behind}
use Rattle.tl_csv.proofs.rows.read_front.Given as goal

abbrev pub invariant-fields : goal.invariant-fields
invariant-fields l =
    behind l.cells (each_from (cell_at l.limits l.rec) l.place (zip l.rest (drop l.place (fields_of l.row))))
    ≡ each_from (cell_at l.limits l.rec) 0 (zip l.kinds (fields_of l.row))

abbrev pub decreases-fields : goal.decreases-fields
decreases-fields l = length l.rest
