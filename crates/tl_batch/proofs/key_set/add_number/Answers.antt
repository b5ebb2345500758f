use Rattle.std.proofs.Common.{cond, not, true, w64, ap, ◌∙◌}
use Rattle.std.proofs.lemmas.Int.{to_z-of_z}
use Rattle.std.specs.List.{list_any}
use Rattle.std.specs.Cmp.{int_eq_equiv}
use Rattle.std.specs.Ordering.{int_eq}
use Rattle.tl_batch.proofs.KeySetLemmas.{one_more}
use Rattle.tl_batch.proofs.key_set.add_number.Goals as goal

pub returns-clause-fresh : goal.returns-clause-fresh
returns-clause-fresh c = c.in_ok-fresh.ensures.added ∙ ap (λ k. not (list_any (int_eq k) c.args.numbers.now.keys)) (to_z-of_z w64 c.args.key c.ranges.key)

pub returns-clause-added : goal.returns-clause-added
returns-clause-added c = λ x. c.in_ok-fresh.ensures.updates.0 x ∙ (ap (λ k. cond (int_eq k x) true (list_any (int_eq x) c.args.numbers.now.keys)) (to_z-of_z w64 c.args.key c.ranges.key) ∙ one_more (int_eq c.args.key x) (int_eq x c.args.key) (list_any (int_eq x) c.args.numbers.now.keys) (int_eq_equiv.symm c.args.key x))
