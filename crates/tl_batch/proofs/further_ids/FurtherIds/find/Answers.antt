use Rattle.std.proofs.Common.{Some, refl}
use Rattle.tl_batch.proofs.KeyIndexLemmas.{found_at, found_further}
use Rattle.tl_batch.proofs.further_ids.FurtherIds.find.Goals as goal

pub returns-in-Some-clause-some : goal.returns-in-Some-clause-some
returns-in-Some-clause-some c = found_further c.args.key.now c.in-Some.ids.now c.args.self.now c.args.self.now c.any.result (found_at c.args.key.now (Some c.in-Some.ids.now) c.self.inside.ids.entries c.args.self.now c.in-Some.ensures.value c.self.view_is) refl c.any.ensures.some
