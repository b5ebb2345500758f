use Rattle.std.proofs.Common.{◌≡◌, Some, map, take}
use Rattle.tl_batch.proofs.untimed.keys_of_lines.Given as goal

abbrev pub invariant-loop-line : goal.invariant-loop-line
invariant-loop-line l = map (λ k. Some k.now) l.keys.items ≡ map (λ k. Some k.key) (take l.line-index l.lines)
