use Rattle.std.proofs.Common.{ap, map, ◌∙◌}
use Rattle.std.specs.List.{filter}
use Rattle.tl_query.specs.Passing.{passes}
use Rattle.tl_plain.specs.declared.keyed_rows.KeyedRow.{KeyedRow}
use Rattle.tl_plain.proofs.KeyLemmas.{rows_of_value}
use Rattle.tl_plain.proofs.aggregates.group_rows.Goals as goal

pub returns : goal.returns
returns c = λ by rows are.
    c.in_ok-group.ensures ∙ ap (λ ks. filter (passes c.args.pred.now) (map (λ (k : KeyedRow). k.row.now) ks)) c.rows_with_key.ensures ∙ ap (filter (passes c.args.pred.now)) (rows_of_value by rows c.args.by_key.now c.args.value.now are)
