use Rattle.std.proofs.Common.{cond, Some, ap, ◌∙◌}
use Rattle.std.specs.Map.{lookup}
use Rattle.std.specs.Cmp.Lexicographic.{nat_list_eq_equiv}
use Rattle.tl_types.specs.Names.{same_bytes}
use Rattle.tl_batch.proofs.FewLemmas.{few_first}
use Rattle.tl_batch.proofs.few_by_key.insert_text.Goals as goal

pub returns-clause-ok : goal.returns-clause-ok
returns-clause-ok c = few_first same_bytes nat_list_eq_equiv c.args.key.now c.args.id c.one.result c.args.few.now.entries c.insert.new.self.entries (λ q. c.in_ok-insert.ensures.updates.0 q ∙ ap (λ k. cond (same_bytes k q) (Some c.one.result) (lookup (same_bytes q) c.args.few.now.entries)) c.in_ok-copy.ensures.cases) c.one.ensures c.requires
