use Rattle.tl_running.proofs.LastingLemmas.{dropped_same}
use Rattle.tl_running.proofs.lasting_heap.drop_first.Goals as goal

pub returns-clause-same : goal.returns-clause-same
returns-clause-same c =
    let e = c.in-Some.ensures in
    dropped_same c.args.now c.in-Some._first c.args.rows.now.data.items c.pop.new.self.data.items c.requires.over e.top e.permutation
