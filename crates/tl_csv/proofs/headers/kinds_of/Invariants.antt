use Rattle.std.proofs.Common.{◌≡◌, ◌-◌, length, drop}
use Rattle.csv.specs.Records.{fields_of}
use Rattle.tl_csv.specs.Faults.{each_from}
use Rattle.tl_csv.specs.Header.{kind_at}
use Rattle.tl_csv.proofs.FaultLemmas.{behind}
use Rattle.tl_csv.proofs.headers.kinds_of.Given as goal

abbrev pub invariant-loop-name : goal.invariant-loop-name
invariant-loop-name l =
    behind l.kinds (each_from (kind_at l.schema l.kind (fields_of l.header)) (length l.kinds) (drop (length l.kinds) (fields_of l.header)))
    ≡ each_from (kind_at l.schema l.kind (fields_of l.header)) 0 (fields_of l.header)

abbrev pub decreases-loop-name : goal.decreases-loop-name
decreases-loop-name l = length (fields_of l.header) - length l.kinds
