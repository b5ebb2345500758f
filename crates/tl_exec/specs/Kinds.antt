-- Which kind of query it is.
use Rattle.tl_query.specs.declared.typed_queries.Typed.{Typed}
use Rattle.tl_query.specs.declared.typed_queries.Typed.TheVariants as typed

-- the query is a SELECT
abbrev pub IsSelect : Typed → Type 0
IsSelect (typed.Select table items pred valid_at version) = Unit {0}
IsSelect (typed.Agg table kind column by pred over) = ⊥
IsSelect (typed.Join left left_pred right right_pred left_on right_on over) = ⊥

-- the query is for an aggregate
abbrev pub IsAgg : Typed → Type 0
IsAgg (typed.Select table items pred valid_at version) = ⊥
IsAgg (typed.Agg table kind column by pred over) = Unit {0}
IsAgg (typed.Join left left_pred right right_pred left_on right_on over) = ⊥

-- the query is for the pairs of a join
abbrev pub IsJoin : Typed → Type 0
IsJoin (typed.Select table items pred valid_at version) = ⊥
IsJoin (typed.Agg table kind column by pred over) = ⊥
IsJoin (typed.Join left left_pred right right_pred left_on right_on over) = Unit {0}
