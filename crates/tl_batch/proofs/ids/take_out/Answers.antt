use Rattle.std.proofs.Common.{ap, ◌∙◌, subst, sym}
use Rattle.tl_types.specs.Facts.{AscendFrom}
use Rattle.tl_types.specs.History.{has_id}
use Rattle.tl_batch.proofs.KeyIndexLemmas.{id_cut, cut_ascends}
use Rattle.tl_batch.proofs.ids.take_out.Goals as goal

pub returns-clause-ascending : goal.returns-clause-ascending
returns-clause-ascending c = subst (AscendFrom 0) (sym c.remove.ensures.items) (cut_ascends 0 _ c.args.few.now.items c.requires)

pub returns-clause-ids : goal.returns-clause-ids
returns-clause-ids c = λ n. ap (λ ids. has_id ids n) c.remove.ensures.items ∙ id_cut 0 _ c.args.id c.args.few.now.items c.requires (rw c.as_slice.ensures.value at c.in-Some.ensures.some) n
