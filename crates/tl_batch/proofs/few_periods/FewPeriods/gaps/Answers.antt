use Rattle.std.proofs.Common.{rules}
use Rattle.tl_batch.proofs.PeriodSetLemmas.{left_by_lines}
use Rattle.tl_batch.proofs.few_periods.FewPeriods.gaps.Goals as goal

pub returns-clause-lines : goal.returns-clause-lines
returns-clause-lines c = λ lines full same. left_by_lines lines c.in_ok-left.left.items c.args.period c.self.inside.stretches.items c.args.self.now (search rules) c.self.view_is c.self.invariant c.to.ensures.some full same
