use Rattle.std.proofs.Common.{refl}
use Rattle.tl_batch.specs.Pieces.{affected_ids}
use Rattle.tl_batch.proofs.RowChangesLemmas.{affected_has, closes_within, opens_are}
use Rattle.tl_batch.proofs.changing.rows_left.Goals as goal

pub old_pieces-requires-clause-rows : goal.old_pieces-requires-clause-rows
old_pieces-requires-clause-rows g c = closes_within c.args.table.now.schema c.requires.closes.0 c.args.table.now.rows (affected_ids c.args.table.now.schema c.requires.closes.0 0 c.args.table.now.rows) c.args.closes.now c.requires.closes.2 (affected_has c.args.table.now.schema c.requires.closes.0 c.args.table.now.rows)

pub returns : goal.returns
returns g c = λ lines held same. opens_are c.args.table.now.schema lines c.args.table.now.rows c.args.closes.now c.args.closes.now c.in_ok-opens.opens.items refl same (c.in_ok-opens.ensures lines held)
