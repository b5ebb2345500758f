use Rattle.std.proofs.Common.{ap, ◌∙◌}
use Rattle.std.specs.List.{list_all}
use Rattle.tl_types.specs.History.{matches}
use Rattle.tl_types.specs.Resolving.{put_lines}
use Rattle.tl_batch.proofs.CommitLemmas.{rows-keyed}
use Rattle.tl_batch.proofs.UntimedLines.{put_keys}
use Rattle.tl_batch.proofs.resolving.put_closes.Goals as goal

pub keys_of_rows-requires : goal.keys_of_rows-requires
keys_of_rows-requires c = rows-keyed c.schema.result.now c.key.result c.args.rows.now c.key.ensures.value c.key.ensures.among (ap (λ s. list_all (matches s) c.args.rows.now) c.schema.ensures.value ∙ c.requires.matching)

pub returns-clause-made : goal.returns-clause-made
returns-clause-made c = c.in_ok-closes.ensures.made (put_lines c.args.table.now.schema c.args.rows.now) (put_keys c.args.table.now.schema c.schema.result.now c.key.result c.args.rows.now c.in_ok-keys.keys.items c.deref.result.now c.key.ensures.value c.schema.ensures.value c.deref.ensures.value c.in_ok-keys.ensures)
