use Rattle.std.proofs.Common.{cond, Some, ap, w64, ◌∙◌}
use Rattle.std.proofs.lemmas.Int.{to_z-of_z}
use Rattle.std.specs.Map.{lookup}
use Rattle.std.specs.Cmp.{int_eq_equiv}
use Rattle.std.specs.Ordering.{int_eq}
use Rattle.tl_batch.proofs.FewLemmas.{few_first}
use Rattle.tl_batch.proofs.few_by_key.insert_number.Goals as goal

pub returns-clause-ok : goal.returns-clause-ok
returns-clause-ok c = few_first int_eq int_eq_equiv c.args.key c.args.id c.one.result c.args.few.now.entries c.insert.new.self.entries (λ q. c.in_ok-insert.ensures.updates.0 q ∙ ap (λ k. cond (int_eq k q) (Some c.one.result) (lookup (int_eq q) c.args.few.now.entries)) (to_z-of_z w64 c.args.key c.ranges.key)) c.one.ensures c.requires
