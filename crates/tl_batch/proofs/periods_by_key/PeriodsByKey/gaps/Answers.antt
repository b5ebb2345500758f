use Rattle.std.proofs.Common.{None, Some, ap, ◌∙◌}
use Rattle.tl_batch.specs.Covers.{is_covered}
use Rattle.tl_batch.proofs.HoldLemmas.{found_is}
use Rattle.tl_batch.proofs.periods_by_key.PeriodsByKey.gaps.Goals as goal

pub returns-in_ok-left-in-Some-clause-lines : goal.returns-in_ok-left-in-Some-clause-lines
returns-in_ok-left-in-Some-clause-lines c = λ lines full same. c.in_ok-left-in-Some.ensures.lines lines full (λ t. ap (is_covered t) (found_is c.args.key.now c.self.inside.covers.entries c.args.self.now (Some c.in-Some.cover.now) c.in-Some.ensures.value c.self.view_is) ∙ same t)

pub returns-in_ok-left-in-None-clause-lines : goal.returns-in_ok-left-in-None-clause-lines
returns-in_ok-left-in-None-clause-lines c = λ lines full same. c.in_ok-left-in-None.ensures.lines lines full (λ t. ap (is_covered t) (c.new-cover.ensures ∙ found_is c.args.key.now c.self.inside.covers.entries c.args.self.now None c.in-None.ensures.value c.self.view_is) ∙ same t)
