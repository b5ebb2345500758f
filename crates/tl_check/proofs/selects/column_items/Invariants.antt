use Rattle.std.proofs.Common.{◌≡◌, map, take}
use Rattle.std.specs.List.{enumerate_from}
use Rattle.tl_query.specs.declared.typed_queries.TypedItem.TheVariants as typed_item
use Rattle.tl_check.proofs.selects.column_items.Given as goal

abbrev pub invariant-loop-place : goal.invariant-loop-place
invariant-loop-place l = l.typed.items ≡ map (λ c. typed_item.Column c.0) (enumerate_from 0 (take l.place l.columns))
