use Rattle.std.proofs.Common.{◌∙◌}
use Rattle.tl_store.proofs.RowLemmas.{new_is_table}
use Rattle.tl_store.proofs.table.TableData.new.Goals as goal

pub invariant_of-result : goal.invariant_of-result
invariant_of-result c =
    new_is_table c.args.schema.now c.in_ok-new.field-0.value c.columns.result.now c.in_ok-empty_columns.field-0.items c.none.result c.none-2.result c.none-3.result
    (c.in_ok-new.ensures.ok ∙ c.in_ok-clone.ensures.cases) c.columns.ensures.value c.in_ok-empty_columns.ensures c.none.ensures c.none-2.ensures c.none-3.ensures c.columns.ensures.some c.columns.ensures.few
