use Rattle.std.proofs.Common.{◌≡◌, ℕ, ◌+◌, List, true, drop, map}
use Rattle.tl_types.specs.Plain as plain
use Rattle.tl_batch.specs.OpenTables.{IsIndexOf}
use Rattle.tl_batch.specs.Untimed.{row_fault}
use Rattle.tl_batch.proofs.untimed.first_missing_row.Given as goal

abbrev pub invariant-loop-i : goal.invariant-loop-i
invariant-loop-i l = (place : ℕ) (rows : List plain.Row) → IsIndexOf l.index place rows → row_fault true place rows (l.i + 2) (map (λ k. k.now) (drop l.i l.keys)) ≡ row_fault true place rows 2 (map (λ k. k.now) l.keys)
