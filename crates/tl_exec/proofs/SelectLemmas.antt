-- What a SELECT shows, and what it takes.
use Rattle.std.proofs.Common.{◌≡◌, ℕ, ℤ, ◌+◌, ◌*◌, ◌≤◌, Bool, true, false, ◌&&◌, cond, List, [], ◌∷◌, length, map, Option, Some, None, refl, ap, sym, ◌∙◌, arith}
use Rattle.std.specs.List.{filter}
use Rattle.std.proofs.lemmas.List.{length-map}
use Rattle.std.proofs.lemmas.List.Elements.{filter_agree}
use Rattle.tl_types.specs.Plain as plain
use Rattle.tl_types.specs.History.{is_visible, is_within, rows_of, with_ids}
use Rattle.tl_query.specs.declared.typed_queries.TypedItem.{TypedItem}
use Rattle.tl_query.specs.declared.typed_queries.TypedPred.{TypedPred}
use Rattle.tl_query.specs.Passing.{passes}
use Rattle.tl_query.specs.Fields.{row_fields}
use Rattle.tl_query.specs.Answers.{selected}
use Rattle.tl_plain.specs.Choosing.{is_selected}
use Rattle.tl_plain.proofs.Selecting.{filter_twice, without_ids, selected_plain}
use Rattle.tl_exec.specs.Shown.{rows_in_set, is_valid_at, fields_in_set}
use Rattle.tl_exec.specs.Bounds.{rows_chosen}

-- the rows of the set of those that pass a test
pub rows_by_test : (f : plain.Row → Bool) (rows : List plain.Row) → rows_in_set (map f rows) rows ≡ filter f rows
rows_by_test f [] = refl
rows_by_test f (row ∷ rows) = ap (λ rs. cond (f row) (row ∷ rs) rs) (rows_by_test f rows)

turned : (pred : TypedPred) (valid_at : Option ℤ) (version : ℕ) (row : plain.Row) → ((is_visible version row && passes pred row) && is_valid_at valid_at row) ≡ is_selected pred valid_at version row
turned pred None version row = regrouped (is_visible version row) (passes pred row) true where
  regrouped : (a b c : Bool) → ((a && b) && c) ≡ ((a && c) && b)
  regrouped true true c = sym (and_true c) where
    and_true : (c : Bool) → (c && true) ≡ c
    and_true true = refl
    and_true false = refl
  regrouped true false true = refl
  regrouped true false false = refl
  regrouped false b c = refl
turned pred (Some moment) version row = regrouped (is_visible version row) (passes pred row) (is_within moment row.period) where
  regrouped : (a b c : Bool) → ((a && b) && c) ≡ ((a && c) && b)
  regrouped true true true = refl
  regrouped true true false = refl
  regrouped true false true = refl
  regrouped true false false = refl
  regrouped false b c = refl

-- what is shown of the rows that are visible and pass is what is selected
pub selected_shown : (db : plain.Database) (table : ℕ) (items : List TypedItem) (pred : TypedPred) (valid_at : Option ℤ) (version : ℕ) (set : List Bool)
    → set ≡ map (λ r. is_visible version r && passes pred r) (rows_of db table) → fields_in_set items valid_at set (rows_of db table) ≡ selected db table items pred valid_at version
selected_shown db table items pred valid_at version set is =
    let rows = rows_of db table in
    let f : plain.Row → Bool = λ r. is_visible version r && passes pred r in
    ap (λ s. fields_in_set items valid_at s rows) is
    ∙ ap (λ rs. map (row_fields items) (filter (is_valid_at valid_at) rs)) (rows_by_test f rows)
    ∙ ap (map (row_fields items)) (filter_twice f (is_valid_at valid_at) rows ∙ filter_agree (λ (row : plain.Row). f row && is_valid_at valid_at row) (is_selected pred valid_at version) (turned pred valid_at version) rows)
    ∙ selected_plain db table items pred valid_at version

-- they are as many as are chosen
pub chosen_shown : (db : plain.Database) (table : ℕ) (pred : TypedPred) (version : ℕ) (set : List Bool)
    → set ≡ map (λ r. is_visible version r && passes pred r) (rows_of db table) → length (rows_in_set set (rows_of db table)) ≡ rows_chosen db table version pred
chosen_shown db table pred version set is =
    let rows = rows_of db table in
    let f : plain.Row → Bool = λ r. is_visible version r && passes pred r in
    let seen = filter (λ (r : ℕ × plain.Row). is_visible version r.1 && passes pred r.1) (with_ids rows) in
    ap (λ s. length (rows_in_set s rows)) is ∙ ap length (rows_by_test f rows)
    ∙ sym (length-map (filter f rows) (λ (r : plain.Row). r)) ∙ ap length (sym (without_ids (λ (r : plain.Row). r) f 0 rows))
    ∙ length-map seen (λ (r : ℕ × plain.Row). r.1)
    ∙ ap length (sym (filter_twice (λ (r : ℕ × plain.Row). is_visible version r.1) (λ (r : ℕ × plain.Row). passes pred r.1) (with_ids rows)))

-- steps to choose the rows and to show them
pub select_within : (before between after p w e s i r words rows : ℕ) → between ≤ before + p * w + e + 3 * w + 2 * s → after ≤ between + words + (i + 2) * rows → words ≡ w → rows ≡ r
    → after ≤ before + (p * w + e + 4 * w + 2 * s + (i + 2) * r + 1)
select_within before between after p w e s i r words rows choosing showing same all =
    let k : (i + 2) * rows ≡ (i + 2) * r = ap (λ n. (i + 2) * n) all in
    omega arith
