use Rattle.std.proofs.Common.{◌≡◌, ◌++◌, drop, length, map, true}
use Rattle.tl_csv.specs.Block.{cell_in}
use Rattle.tl_csv.specs.Layouts.{are_distinct_places, are_within}
use Rattle.tl_csv.proofs.rows.take_into.Given as goal

abbrev pub invariant-loop-place : goal.invariant-loop-place
invariant-loop-place l = record {
  taken : l.taken ++ map (cell_in l.cells) (drop l.place-index l.places) ≡ map (cell_in l.fn.cells) l.places;
  distinct : are_distinct_places (drop l.place-index l.places) ≡ true;
  within : are_within (length l.cells) (drop l.place-index l.places) ≡ true;
}
