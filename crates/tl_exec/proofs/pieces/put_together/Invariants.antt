use Rattle.tl_exec.specs.Pieces.{PutsTogether}
use Rattle.tl_exec.proofs.pieces.put_together.Given as goal

abbrev pub invariant-loop-part : goal.invariant-loop-part
invariant-loop-part l = PutsTogether l.yielded l.whole
