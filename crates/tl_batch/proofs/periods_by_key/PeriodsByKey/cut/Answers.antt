use Rattle.std.proofs.Common.{Some}
use Rattle.tl_batch.specs.Pieces.{periods_with}
use Rattle.tl_batch.proofs.HoldLemmas.{left_none, left_whole}
use Rattle.tl_batch.proofs.periods_by_key.PeriodsByKey.cut.Goals as goal

pub returns-in_default-clause-lines : goal.returns-in_default-clause-lines
returns-in_default-clause-lines c = λ lines held. left_none (periods_with (Some c.args.key.now) lines) c.new-left.result.items c.push.new.self.items c.args.whole.now c.in_default.is c.new-left.ensures.items c.in_ok-push.ensures.ok

pub returns-clause-lines : goal.returns-clause-lines
returns-clause-lines c = λ lines held. left_whole (periods_with (Some c.args.key.now) lines) c.in_ok-left.left.items c.in-Some.period c.args.whole.now c.in-Some.is (c.in_ok-left.ensures.lines (periods_with (Some c.args.key.now) lines) (held.full c.args.key.now) (held.same c.args.key.now))
