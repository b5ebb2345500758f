use Rattle.std.proofs.Common.{ap, ◌∙◌}
use Rattle.tl_query.specs.Passing.{passes}
use Rattle.tl_plain.specs.Choosing.{lent}
use Rattle.tl_plain.proofs.CollectLemmas.{few_passing}
use Rattle.tl_plain.proofs.aggregates.ungrouped.Goals as goal

pub runs_in-requires : goal.runs_in-requires
runs_in-requires c = few_passing (passes c.args.pred.now) c.as_slice.result.now c.args.rows.now 4294967296 (ap lent c.as_slice.ensures.value ∙ c.in_ok-passing.ensures) c.requires
