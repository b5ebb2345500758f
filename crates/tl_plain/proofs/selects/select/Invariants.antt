use Rattle.std.proofs.Common.{◌≡◌, map, take}
use Rattle.std.specs.List.{filter}
use Rattle.tl_query.specs.Fields.{row_fields}
use Rattle.tl_plain.specs.Choosing.{is_selected}
use Rattle.tl_plain.proofs.selects.select.Given as goal

abbrev pub invariant-loop-row : goal.invariant-loop-row
invariant-loop-row l = l.answer.items ≡ map (row_fields l.items) (filter (is_selected l.pred l.valid_at l.version) (take l.row-index l.rows))
