use Rattle.tl_batch.specs.OpenTables.{table_at}
use Rattle.tl_batch.proofs.StandingLemmas.{listed_standing}
use Rattle.tl_batch.proofs.open_table.OpenTable.open_ids.Goals as goal

pub returns-clause-rows : goal.returns-clause-rows
returns-clause-rows c =
    (listed_standing (table_at c.self.inside.store.now c.self.inside.number c.self.inside.schema.now) c.args.self.now c.self.inside.schema.now c.self.inside.index.now c.new-ids.result c.add_all_to.new.ids c.listed-listed.result c.self.invariant.matching c.self.view_is c.self.invariant.same c.self.invariant.ids c.key-place.ensures.among c.new-ids.ensures c.in_ok-add_all_to.ensures.ids c.in_ok-add_all_to.ensures.keys c.listed-listed.ensures.ascending c.listed-listed.ensures.members).rows

pub returns-clause-within : goal.returns-clause-within
returns-clause-within c =
    (listed_standing (table_at c.self.inside.store.now c.self.inside.number c.self.inside.schema.now) c.args.self.now c.self.inside.schema.now c.self.inside.index.now c.new-ids.result c.add_all_to.new.ids c.listed-listed.result c.self.invariant.matching c.self.view_is c.self.invariant.same c.self.invariant.ids c.key-place.ensures.among c.new-ids.ensures c.in_ok-add_all_to.ensures.ids c.in_ok-add_all_to.ensures.keys c.listed-listed.ensures.ascending c.listed-listed.ensures.members).within
