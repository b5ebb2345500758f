use Rattle.std.proofs.Common.{sym, ap, ◌∙◌}
use Rattle.tl_batch.specs.OpenTables.{table_at}
use Rattle.tl_batch.specs.Syncing.{start_of}
use Rattle.tl_batch.proofs.SameRowLemmas.{untimed_row}
use Rattle.tl_batch.proofs.open_table.OpenTable.start.Goals as goal

pub returns-then-not-valid : goal.returns-then-not-valid
returns-then-not-valid g c = λ r e. sym (ap start_of (untimed_row (table_at c.self.inside.store.now c.self.inside.number c.self.inside.schema.now) c.args.self.now c.self.inside.schema.now c.valid.result c.args.row r c.self.invariant.matching c.self.view_is c.self.invariant.same c.valid.ensures.value c.if-not-valid.true e))
