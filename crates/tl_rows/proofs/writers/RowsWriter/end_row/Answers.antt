use Rattle.tl_rows.proofs.RowLemmas.{behind_ended, cut_ended, ends_pushed}
use Rattle.tl_rows.proofs.writers.RowsWriter.end_row.Goals as goal

pub invariant_of-self-2 : goal.invariant_of-self-2
invariant_of-self-2 c = rw (c.in_ok-push.ensures.items, c.len.ensures.number) (ends_pushed 0 c.self.inside.ends.items _ c.self.invariant)

pub returns-clause-rows : goal.returns-clause-rows
returns-clause-rows c = rw (← c.self.view_is, c.in_ok-push.ensures.items, c.len.ensures.number) (cut_ended c.self.inside.ends.items c.self.inside.fields c.self.invariant)

pub returns-clause-row : goal.returns-clause-row
returns-clause-row c = rw (c.in_ok-push.ensures.items, c.len.ensures.number) (behind_ended c.self.inside.ends.items c.self.inside.fields c.self.invariant)
