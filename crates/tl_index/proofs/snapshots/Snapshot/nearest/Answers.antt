use Rattle.std.proofs.lemmas.Option.{IfSome_then}
use Rattle.tl_bits.proofs.SetLemmas.{IfNone_then}
use Rattle.tl_index.proofs.NearestLemmas.{nearest_found, none_nearest}
use Rattle.tl_index.proofs.snapshots.Snapshot.nearest.Goals as goal

pub returns-clause-found : goal.returns-clause-found
returns-clause-found c = IfSome_then c.nearest.result c.nearest.ensures.found (λ mark is. nearest_found c.args.self.now c.marks.result.now c.args.table c.args.version mark.now c.marks.ensures.marks is)

pub returns-clause-none : goal.returns-clause-none
returns-clause-none c = IfNone_then c.nearest.result c.nearest.ensures.none (λ is. none_nearest c.args.self.now c.marks.result.now c.args.table c.args.version c.marks.ensures.marks is)
