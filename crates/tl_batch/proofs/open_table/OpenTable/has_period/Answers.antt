use Rattle.std.proofs.Common.{sym, ap, ◌∙◌}
use Rattle.tl_batch.specs.OpenTables.{table_at}
use Rattle.tl_types.specs.Resolving.{same_period}
use Rattle.tl_batch.proofs.SameRowLemmas.{no_period, untimed_row, timed_row}
use Rattle.tl_batch.proofs.open_table.OpenTable.has_period.Goals as goal

pub returns-then-not-valid : goal.returns-then-not-valid
returns-then-not-valid g c = λ r e. no_period r.period c.args.period.now c.is_none.result (untimed_row (table_at c.self.inside.store.now c.self.inside.number c.self.inside.schema.now) c.args.self.now c.self.inside.schema.now c.valid.result c.args.row r c.self.invariant.matching c.self.view_is c.self.invariant.same c.valid.ensures.value c.if-not-valid.true e) c.is_none.ensures

pub returns-in_default : goal.returns-in_default
returns-in_default g c = λ r e. sym (ap (same_period r.period) c.in_default.is ∙ timed_row (table_at c.self.inside.store.now c.self.inside.number c.self.inside.schema.now) c.args.self.now c.self.inside.schema.now c.valid.result c.args.row r c.self.invariant.matching c.self.view_is c.self.invariant.same c.valid.ensures.value c.if-not-valid.false e)
