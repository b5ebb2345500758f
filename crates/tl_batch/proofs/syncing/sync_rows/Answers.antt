use Rattle.std.proofs.Common.{ap, ◌∙◌}
use Rattle.std.specs.List.{list_all}
use Rattle.tl_types.specs.History.{matches}
use Rattle.tl_batch.proofs.CommitLemmas.{rows-keyed}
use Rattle.tl_batch.proofs.syncing.sync_rows.Goals as goal

pub new-requires-clause-keyed : goal.new-requires-clause-keyed
new-requires-clause-keyed g c = rows-keyed c.schema.result.now c.key.result c.args.lines.now c.key.ensures.value c.key.ensures.among (ap (λ s. list_all (matches s) c.args.lines.now) c.schema.ensures.value ∙ c.requires.matching)
