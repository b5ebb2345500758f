use Rattle.std.proofs.Common.{Some}
use Rattle.tl_batch.proofs.HoldLemmas.{changed_at}
use Rattle.tl_batch.proofs.periods_by_key.PeriodsByKey.put.Goals as goal

pub returns : goal.returns
returns c = changed_at c.args.key.now c.in_ok-key.key (Some c.args.cover) c.self.inside.covers.entries c.insert.new.self.entries c.args.self.now c.in_ok-key.ensures.cases c.in_ok-insert.ensures.updates.0 c.self.view_is
