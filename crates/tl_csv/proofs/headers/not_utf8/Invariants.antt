use Rattle.std.proofs.Common.{◌≡◌, ◌-◌, length, drop, not}
use Rattle.csv.specs.Records.{fields_of}
use Rattle.std.specs.List.{position_from}
use Rattle.std.specs.Str.{is_utf8}
use Rattle.tl_csv.proofs.headers.not_utf8.Given as goal

abbrev pub invariant-loop-name : goal.invariant-loop-name
invariant-loop-name l = position_from (λ name. not (is_utf8 name)) l.i (drop l.i (fields_of l.header)) ≡ position_from (λ name. not (is_utf8 name)) 0 (fields_of l.header)

abbrev pub decreases-loop-name : goal.decreases-loop-name
decreases-loop-name l = length (fields_of l.header) - l.i
