use Rattle.std.proofs.Common.{◌≡◌, Some, map, take, slice_get}
use Rattle.tl_batch.proofs.untimed.keys_of_rows.Given as goal

abbrev pub invariant-loop-row : goal.invariant-loop-row
invariant-loop-row l = map (λ k. Some k.now) l.keys.items ≡ map (λ o. slice_get o.cells l.place) (take l.row-index l.rows)
