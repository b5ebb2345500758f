use Rattle.tl_running.proofs.LastingLemmas.{first_is}
use Rattle.tl_running.proofs.lasting_heap.first.Goals as goal

pub returns-clause-some : goal.returns-clause-some
returns-clause-some c =
    let e = c.in_ok-top.ensures in
    rw c.row.ensures (first_is c.in_ok-top.top.now c.args.rows.now.data.items e.item.3.0 e.lookup (e.greatest c.requires))
