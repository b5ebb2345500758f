use Rattle.std.proofs.Common.{sym, ◌∙◌}
use Rattle.tl_check.specs.Known.{known}
use Rattle.tl_check.proofs.RangeLemmas.{agg_range}
use Rattle.tl_check.proofs.aggregates.check_agg.Goals as goal

pub span_of-requires-clause-right : goal.span_of-requires-clause-right
span_of-requires-clause-right c =
    rw c.is_timeless.ensures (agg_range c.args.times.now (known c.args.table) c.args.form.now (sym c.agg_fault.ensures ∙ c.in-None-Some.is-0))
