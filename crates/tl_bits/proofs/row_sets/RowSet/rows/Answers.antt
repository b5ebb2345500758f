use Rattle.tl_bits.proofs.SetLemmas.{rows_are}
use Rattle.tl_bits.proofs.row_sets.RowSet.rows.Goals as goal

pub returns : goal.returns
returns c = rows_are c.self.inside.rows c.self.inside.words.items c.args.self.now c.self.view_is
