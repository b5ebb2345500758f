use Rattle.std.proofs.Common.{◌∙◌}
use Rattle.std.specs.List.{list_any}
use Rattle.std.specs.Cmp.Lexicographic.{nat_list_eq_equiv}
use Rattle.tl_types.specs.Names.{same_bytes}
use Rattle.tl_batch.proofs.KeySetLemmas.{one_more}
use Rattle.tl_batch.proofs.key_set.add_text.Goals as goal

pub returns-clause-added : goal.returns-clause-added
returns-clause-added c = λ x. c.in_ok-fresh.ensures.updates.0 (record c.args.key { now = x }) ∙ one_more (same_bytes c.args.key.now x) (same_bytes x c.args.key.now) (list_any (λ k. same_bytes x k.now) c.args.texts.now.keys) (nat_list_eq_equiv.symm c.args.key.now x)
