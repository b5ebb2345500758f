use Rattle.std.proofs.Common.{sym, ◌∙◌}
use Rattle.tl_check.specs.Known.{known}
use Rattle.tl_check.proofs.RangeLemmas.{join_range}
use Rattle.tl_check.proofs.joins.check_join.Goals as goal

pub span_of-requires-clause-right : goal.span_of-requires-clause-right
span_of-requires-clause-right c =
    rw c.is_either_timeless-timeless.ensures (join_range c.args.times.now (known c.args.left) (known c.args.right) c.args.form.now (sym c.join_fault.ensures ∙ c.in_default.is))
