use Rattle.std.proofs.Common.{is_some, sym, ap}
use Rattle.std.specs.Cmp.Lexicographic.{nat_list_eq_equiv}
use Rattle.tl_types.specs.Names.{same_bytes}
use Rattle.tl_batch.proofs.FewLemmas.{few_same, few_with}
use Rattle.tl_batch.proofs.few_by_key.add_text.Goals as goal

pub returns-in_default-with-clause-ok : goal.returns-in_default-with-clause-ok
returns-in_default-with-clause-ok c = few_same same_bytes nat_list_eq_equiv c.args.key.now c.in-Some.ids.now c.args.few.now.entries (c.get_mut.follows.lender c.in-Some.ids.now).entries (((c.get_mut.follows.holds c.in-Some.ids.now).3 (ap is_some (sym c.in-Some.ensures.value))).0) c.in-Some.ensures.value

pub returns-clause-ok : goal.returns-clause-ok
returns-clause-ok c = few_with same_bytes nat_list_eq_equiv c.args.key.now c.args.id c.in-Some.ids.now c.in-Some-with.more c.args.few.now.entries (c.get_mut.follows.lender c.in-Some-with.more).entries (((c.get_mut.follows.holds c.in-Some-with.more).3 (ap is_some (sym c.in-Some.ensures.value))).0) c.in-Some.ensures.value c.in-Some-with.ensures
