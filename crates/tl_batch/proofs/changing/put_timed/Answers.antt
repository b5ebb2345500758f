use Rattle.std.proofs.Common.{ap, ◌∙◌, refl}
use Rattle.std.specs.List.{list_all}
use Rattle.tl_types.specs.History.{matches}
use Rattle.tl_batch.proofs.CommitLemmas.{rows-keyed}
use Rattle.tl_batch.proofs.changing.put_timed.Goals as goal

pub pieces_behind-requires-clause-keyed : goal.pieces_behind-requires-clause-keyed
pieces_behind-requires-clause-keyed g c = rows-keyed c.schema-schema.result.now c.schema-schema.result.now.key c.args.rows.now refl c.key-place.ensures.among (ap (λ s. list_all (matches s) c.args.rows.now) c.schema-schema.ensures.value ∙ c.requires.matching)
