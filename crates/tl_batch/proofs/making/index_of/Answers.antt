use Rattle.std.proofs.Common.{ap, ◌∙◌}
use Rattle.tl_types.specs.History.{database_of}
use Rattle.tl_batch.specs.KeyIndex.{IdsByKey, has_row}
use Rattle.tl_batch.proofs.KeyIndexLemmas.{none_in}
use Rattle.tl_batch.proofs.MakingLemmas.{index_of_rows}
use Rattle.tl_batch.proofs.making.index_of.Goals as goal

pub add_open-requires-clause-none : goal.add_open-requires-clause-none
add_open-requires-clause-none c = λ x n. c.make_room.ensures x n ∙ (ap (λ (k : IdsByKey). has_row k x n) c.new-index.ensures ∙ none_in x n)

pub returns : goal.returns
returns c = index_of_rows (database_of c.args.store.now) c.args.number c.key-place.result c.schema.result.now c.add_open.new.index c.schema.ensures.value c.key-place.ensures.value c.in_ok-add_open.ensures
