use Rattle.std.proofs.Common.{ap, length}
use Rattle.tl_rows.proofs.RowLemmas.{length_cut}
use Rattle.tl_rows.proofs.field_rows.FieldRows.len.Goals as goal

pub returns : goal.returns
returns c = rw (← c.self.view_is, length_cut 0 c.self.inside.ends.items c.self.inside.fields) (ap length c.as_slice.ensures.value)
