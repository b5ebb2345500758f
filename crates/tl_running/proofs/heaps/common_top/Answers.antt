use Rattle.tl_running.proofs.HeapLemmas.{no_top_came, no_tops, tops_apart, not_same}
use Rattle.tl_running.proofs.heaps.common_top.Goals as goal

pub returns-in_err-first-clause-none : goal.returns-in_err-first-clause-none
returns-in_err-first-clause-none c = rw c.from_residual.ensures (no_top_came c.args.came.now.numbers c.args.gone.now.numbers c.in_err-first.ensures.none)

pub returns-in_err-second-clause-none : goal.returns-in_err-second-clause-none
returns-in_err-second-clause-none c = rw c.from_residual-in_err-second.ensures (no_tops c.args.came.now.numbers c.args.gone.now.numbers c.in_err-second.ensures.none)

pub returns-clause-none : goal.returns-clause-none
returns-clause-none c = tops_apart c.args.came.now.numbers c.args.gone.now.numbers c.in_ok-first.first c.in_ok-second.second c.requires c.in_ok-first.ensures.some c.in_ok-second.ensures.some (not_same c.in_ok-first.first c.in_ok-second.second c.if-first-second.false)
