use Rattle.std.proofs.Common.{◌≡◌, ℕ, ◌+◌, List, [], drop, map}
use Rattle.tl_types.specs.Plain as plain
use Rattle.tl_batch.specs.OpenTables.{IsIndexOf}
use Rattle.tl_batch.specs.Untimed.{key_fault}
use Rattle.tl_batch.proofs.untimed.first_key_fault.Given as goal

abbrev pub invariant-loop-i : goal.invariant-loop-i
invariant-loop-i l = (place : ℕ) (rows : List plain.Row) → IsIndexOf l.index place rows → key_fault l.removes place rows (l.i + 2) l.earlier (map (λ k. k.now) (drop l.i l.keys)) ≡ key_fault l.removes place rows 2 [] (map (λ k. k.now) l.keys)
