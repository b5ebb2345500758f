use Rattle.std.proofs.Common.{◌∙◌}
use Rattle.std.proofs.lemmas.List.Filters.{dedup_is}
use Rattle.tl_batch.proofs.KeyIndexLemmas.{ids_ascend, ids_kept}
use Rattle.tl_batch.proofs.id_list.IdList.listed.Goals as goal

pub returns-clause-ascending : goal.returns-clause-ascending
returns-clause-ascending c = ids_ascend c.sort_unstable.new.self.items c.from_vec.result c.sort_unstable.ensures.sorted (c.from_vec.ensures ∙ dedup_is _ _ _ c.dedup.ensures.filtered)

pub returns-clause-members : goal.returns-clause-members
returns-clause-members c = ids_kept c.self.inside.ids.items c.args.self c.sort_unstable.new.self.items c.from_vec.result c.sort_unstable.ensures.permutation c.self.view_is (c.from_vec.ensures ∙ dedup_is _ _ _ c.dedup.ensures.filtered)
