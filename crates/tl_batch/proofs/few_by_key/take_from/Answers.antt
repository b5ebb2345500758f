use Rattle.std.proofs.Common.{Some, is_some, sym, ap}
use Rattle.tl_batch.proofs.FewLemmas.{few_without}
use Rattle.tl_batch.proofs.few_by_key.take_from.Goals as goal

pub returns : goal.returns
returns g c = few_without g.K.PartialEq.eq g.met.K.Eq.laws c.args.key.now c.args.id c.in-Some.ids.now (Some c.in-Some-without.left) c.args.few.now.entries (c.get_mut.follows.lender c.in-Some-without.left).entries (((c.get_mut.follows.holds c.in-Some-without.left).3 (ap is_some (sym c.in-Some.ensures.value))).0) c.in-Some.ensures.value c.in-Some-without.ensures
