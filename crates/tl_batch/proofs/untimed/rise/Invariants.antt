use Rattle.std.proofs.Common.{[], drop, map}
use Rattle.tl_batch.specs.Untimed.{AreFresh}
use Rattle.tl_batch.proofs.FreshKeys.{RiseFrom}
use Rattle.tl_batch.proofs.untimed.rise.Given as goal

abbrev pub invariant-loop-key : goal.invariant-loop-key
invariant-loop-key l = RiseFrom l.last (map (λ k. k.now) (drop l.key-index l.behind)) → AreFresh [] (map (λ k. k.now) l.fn.keys)
