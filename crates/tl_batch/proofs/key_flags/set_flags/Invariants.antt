use Rattle.tl_batch.proofs.FlagLemmas.{HaveFlags}
use Rattle.tl_batch.proofs.key_flags.set_flags.Given as goal

abbrev pub invariant-loop-key : goal.invariant-loop-key
invariant-loop-key l = HaveFlags l.flags l.keys l.key-index
