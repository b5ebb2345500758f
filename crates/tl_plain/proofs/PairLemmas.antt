-- The rows that may make a pair with a left row.
use Rattle.std.proofs.Common.{◌≡◌, ℕ, Bool, true, false, ◌&&◌, cond, List, [], ◌∷◌, map, Option, Some, None, refl, sym, ap, ◌∙◌}
use Rattle.std.specs.List.{filter, filter_map}
use Rattle.tl_types.specs.declared.cells.Cell.{Cell}
use Rattle.tl_types.specs.History.{cell_at, with_ids}
use Rattle.tl_types.specs.Resolving.{same_key}
use Rattle.tl_types.specs.Plain as plain
use Rattle.tl_query.specs.declared.typed_queries.Span.{Span}
use Rattle.tl_query.specs.declared.typed_queries.TypedPred.{TypedPred}
use Rattle.tl_query.specs.Passing.{passes}
use Rattle.tl_query.specs.Joins.{common_pair, match_rows, pair_of, times_of}
use Rattle.tl_plain.specs.declared.keyed_rows.KeyedRow.{KeyedRow}
use Rattle.tl_plain.specs.Keyed.{row_with_id, has_key, AreByKey}
use Rattle.tl_plain.proofs.CellLemmas.{given_by_key}

and_false : (a b c : Bool) → c ≡ false → (a && b && c) ≡ false
and_false true true c h = h
and_false true false c h = refl
and_false false b c h = refl

unmatched : (left_pred right_pred : TypedPred) (left_on right_on : ℕ) (span : Span) (l r : ℕ × plain.Row) → same_key (cell_at l.1.cells left_on) (cell_at r.1.cells right_on) ≡ false → pair_of left_pred right_pred left_on right_on span l r ≡ None
unmatched left_pred right_pred left_on right_on span l r h =
    let none : match_rows left_pred right_pred left_on right_on l.1 r.1 ≡ false = and_false (passes left_pred l.1) (passes right_pred r.1) (same_key (cell_at l.1.cells left_on) (cell_at r.1.cells right_on)) h in
    ap (λ t. cond t (common_pair span l.0 r.0 (times_of span l.1) (times_of span r.1)) None) none

none_given : {X Y : Type 0} (h : X → Option Y) (xs : List X) → ((x : X) → h x ≡ None) → filter_map h xs ≡ []
none_given h [] none = refl
none_given h (x ∷ xs) none = rw (none x) (none_given h xs none)

pub matching_none : (left_pred right_pred : TypedPred) (left_on right_on : ℕ) (span : Span) (left : plain.Row) (rights : List (ℕ × plain.Row)) → None ≡ cell_at left.cells left_on → (id : ℕ) → [] ≡ filter_map (pair_of left_pred right_pred left_on right_on span (id, left)) rights
matching_none left_pred right_pred left_on right_on span left rights e id =
    sym (none_given (pair_of left_pred right_pred left_on right_on span (id, left)) rights (λ r. unmatched left_pred right_pred left_on right_on span (id, left) r (ap (λ o. same_key o (cell_at r.1.cells right_on)) (sym e))))

pub matching_some : (left_pred right_pred : TypedPred) (left_on right_on : ℕ) (span : Span) (left : plain.Row) (rights : List plain.Row) (by_key found : List KeyedRow) (key : Cell) → AreByKey right_on rights by_key → Some key ≡ cell_at left.cells left_on → found ≡ filter (has_key key) by_key → (id : ℕ) → filter_map (pair_of left_pred right_pred left_on right_on span (id, left)) (map row_with_id found) ≡ filter_map (pair_of left_pred right_pred left_on right_on span (id, left)) (with_ids rights)
matching_some left_pred right_pred left_on right_on span left rights by_key found key are e is id =
    let h = pair_of left_pred right_pred left_on right_on span (id, left) in
    ap (filter_map h) (ap (map row_with_id) is ∙ are.found key) ∙ given_by_key right_on key h (λ r none. unmatched left_pred right_pred left_on right_on span (id, left) r (ap (λ o. same_key o (cell_at r.1.cells right_on)) (sym e) ∙ none)) (with_ids rights)
