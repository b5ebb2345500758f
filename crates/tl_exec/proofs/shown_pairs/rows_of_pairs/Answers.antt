use Rattle.tl_exec.proofs.FullLemmas.{fitting}
use Rattle.tl_exec.proofs.shown_pairs.rows_of_pairs.Goals as goal

pub pairs_as_rows-requires-clause-fitting : goal.pairs_as_rows-requires-clause-fitting
pairs_as_rows-requires-clause-fitting g c = fitting c.args.snapshot.now c.store.result.now c.has_break-legal.ensures.legal c.store.ensures
