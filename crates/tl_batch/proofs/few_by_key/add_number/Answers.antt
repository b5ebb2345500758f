use Rattle.std.proofs.Common.{cond, Some, is_some, sym, ap, w64, ◌∙◌}
use Rattle.std.proofs.lemmas.Int.{to_z-of_z}
use Rattle.std.specs.Map.{lookup}
use Rattle.std.specs.Cmp.{int_eq_equiv}
use Rattle.std.specs.Ordering.{int_eq}
use Rattle.tl_batch.proofs.FewLemmas.{few_same, few_with}
use Rattle.tl_batch.proofs.few_by_key.add_number.Goals as goal

pub returns-in_default-with-clause-ok : goal.returns-in_default-with-clause-ok
returns-in_default-with-clause-ok c =
    let key = to_z-of_z w64 c.args.key c.ranges.key in
    let change = ((c.get_mut.follows.holds c.in-Some.ids.now).3 (ap is_some (sym c.in-Some.ensures.value))).0 in
    few_same int_eq int_eq_equiv c.args.key c.in-Some.ids.now c.args.few.now.entries (c.get_mut.follows.lender c.in-Some.ids.now).entries (λ q. change q ∙ ap (λ k. cond (int_eq k q) (Some c.in-Some.ids.now) (lookup (int_eq q) c.args.few.now.entries)) key) (c.in-Some.ensures.value ∙ ap (λ k. lookup (int_eq k) c.args.few.now.entries) key)

pub returns-clause-ok : goal.returns-clause-ok
returns-clause-ok c =
    let key = to_z-of_z w64 c.args.key c.ranges.key in
    let change = ((c.get_mut.follows.holds c.in-Some-with.more).3 (ap is_some (sym c.in-Some.ensures.value))).0 in
    few_with int_eq int_eq_equiv c.args.key c.args.id c.in-Some.ids.now c.in-Some-with.more c.args.few.now.entries (c.get_mut.follows.lender c.in-Some-with.more).entries (λ q. change q ∙ ap (λ k. cond (int_eq k q) (Some c.in-Some-with.more) (lookup (int_eq q) c.args.few.now.entries)) key) (c.in-Some.ensures.value ∙ ap (λ k. lookup (int_eq k) c.args.few.now.entries) key) c.in-Some-with.ensures
