-- What is read off the rows of a table is what the definitions say of the database.
use Rattle.std.proofs.Common.{◌≡◌, ℕ, ◌+◌, ℤ, pos, negsuc, Bool, true, false, ◌&&◌, cond, List, [], ◌∷◌, map, Option, Some, None, refl, sym, ap, ◌∙◌}
use mathlib.Core.Path.{fun_ext}
use Rattle.std.proofs.lemmas.List.Elements.{filter_agree}
use Rattle.std.specs.List.{enumerate_from, filter, flat_map}
use Rattle.tl_types.specs.declared.cells.Cell.{Cell}
use Rattle.tl_types.specs.History.{is_visible, rows_of, is_within, with_ids}
use Rattle.tl_types.specs.Plain as plain
use Rattle.tl_query.specs.declared.ast.AggKind.{AggKind}
use Rattle.tl_query.specs.declared.typed_queries.Span.{Span}
use Rattle.tl_query.specs.declared.typed_queries.Span.TheVariants as span
use Rattle.tl_query.specs.declared.typed_queries.TypedPred.{TypedPred}
use Rattle.tl_query.specs.Passing.{passes}
use Rattle.tl_query.specs.Ordered.{values_of, in_order, pair_before}
use Rattle.tl_query.specs.Aggregates.{passing_at, has_value, group_at, runs_in, group_runs, aggregate_runs}
use Rattle.tl_query.specs.Joins.{times_of, pairs_of, joined_pairs}
use Rattle.tl_plain.specs.Choosing.{is_there, there_at}
use Rattle.tl_plain.specs.Grouping.{group_rows, runs_over_rows}
use Rattle.tl_plain.proofs.Selecting.{filter_twice}

rows_bare : (p : plain.Row → Bool) (n : ℕ) (rows : List plain.Row) → map (λ r. r.1) (filter (λ r. p r.1) (enumerate_from n rows)) ≡ filter p rows
rows_bare p n [] = refl
rows_bare p n (row ∷ rows) =
    let later = rows_bare p (n + 1) rows in
    elim (p row) as (λ b. map (λ r. r.1) (cond b ((n, row) ∷ filter (λ r. p r.1) (enumerate_from (n + 1) rows)) (filter (λ r. p r.1) (enumerate_from (n + 1) rows))) ≡ cond b (row ∷ filter p rows) (filter p rows)) [ true ↦ ap (λ ys. row ∷ ys) later | false ↦ later ]

filter_none : {X : Type 0} (p : X → Bool) (xs : List X) → ((x : X) → p x ≡ false) → filter p xs ≡ []
filter_none p [] none = refl
filter_none p (x ∷ xs) none = rw (none x) (filter_none p xs none)

filter_all : {X : Type 0} (p : X → Bool) (xs : List X) → ((x : X) → p x ≡ true) → filter p xs ≡ xs
filter_all p [] all = refl
filter_all p (x ∷ xs) all = rw (all x) (ap (λ ys. x ∷ ys) (filter_all p xs all))

valid_within : (version : ℕ) (moment : ℤ) (row : plain.Row) → (is_visible version row && is_within moment row.period) ≡ is_within moment (cond (is_visible version row) row.period None)
valid_within version moment row = elim (is_visible version row) as (λ b. (b && is_within moment row.period) ≡ is_within moment (cond b row.period None)) [ true ↦ refl | false ↦ refl ]

-- the rows that are there at a moment and pass
abbrev there : TypedPred → Span → ℤ → plain.Row → Bool
there pred span moment row = is_within moment (times_of span row) && passes pred row

passing_is : (db : plain.Database) (table : ℕ) (pred : TypedPred) (span : Span) (moment : ℤ) → passing_at db table pred span moment ≡ filter (there pred span moment) (rows_of db table)
passing_is db table pred (span.System from to) (pos version) =
    ap (filter (passes pred)) (rows_bare (is_visible version) 0 (rows_of db table)) ∙ filter_twice (is_visible version) (passes pred) (rows_of db table)
passing_is db table pred (span.System from to) (negsuc n) = sym (filter_none (there pred (span.System from to) (negsuc n)) (rows_of db table) (λ row. refl))
passing_is db table pred (span.Valid version from to) moment =
    let rows = rows_of db table in
    let seen = filter_twice (λ (r : ℕ × plain.Row). is_visible version r.1) (λ (r : ℕ × plain.Row). is_within moment r.1.period) (with_ids rows) in
    let bare = rows_bare (λ row. is_visible version row && is_within moment row.period) 0 rows in
    let both = filter_twice (λ (row : plain.Row). is_visible version row && is_within moment row.period) (passes pred) rows in
    let same = filter_agree (λ (row : plain.Row). is_visible version row && is_within moment row.period && passes pred row) (there pred (span.Valid version from to) moment) (λ row. ap (λ b. b && passes pred row) (valid_within version moment row)) rows in
    ap (λ rs. filter (passes pred) (map (λ (r : ℕ × plain.Row). r.1) rs)) seen ∙ ap (filter (passes pred)) bare ∙ both ∙ same

and_turn : (a b : Bool) → (a && b) ≡ (b && a)
and_turn true true = refl
and_turn true false = refl
and_turn false true = refl
and_turn false false = refl

there_passing : (pred : TypedPred) (span : Span) (rows : List plain.Row) (moment : ℤ) → there_at span (filter (passes pred) rows) moment ≡ filter (there pred span moment) rows
there_passing pred span rows moment = filter_twice (passes pred) (is_there span moment) rows ∙ filter_agree (λ (row : plain.Row). passes pred row && is_there span moment row) (there pred span moment) (λ row. and_turn (passes pred row) (is_there span moment row)) rows

all_there : (db : plain.Database) (table : ℕ) (pred : TypedPred) (span : Span) (moment : ℤ) → there_at span (filter (passes pred) (rows_of db table)) moment ≡ passing_at db table pred span moment
all_there db table pred span moment = there_passing pred span (rows_of db table) moment ∙ sym (passing_is db table pred span moment)

filters_turn : (p q : plain.Row → Bool) (rows : List plain.Row) → filter p (filter q rows) ≡ filter q (filter p rows)
filters_turn p q rows = filter_twice q p rows ∙ filter_agree (λ (row : plain.Row). q row && p row) (λ (row : plain.Row). p row && q row) (λ row. and_turn (q row) (p row)) rows ∙ sym (filter_twice p q rows)

group_there : (db : plain.Database) (table : ℕ) (pred : TypedPred) (span : Span) (by : ℕ) (value : Cell) (moment : ℤ) → there_at span (group_rows pred by value (rows_of db table)) moment ≡ group_at db table pred span by value moment
group_there db table pred span by value moment =
    there_passing pred span (filter (has_value by value) (rows_of db table)) moment ∙ filters_turn (there pred span moment) (has_value by value) (rows_of db table) ∙ ap (filter (has_value by value)) (sym (passing_is db table pred span moment))

-- the runs over the rows of a table are the runs over the database
pub runs_plain : (db : plain.Database) (table : ℕ) (kind : AggKind) (column by : Option ℕ) (pred : TypedPred) (span : Span) → runs_over_rows kind column by pred span (rows_of db table) ≡ aggregate_runs db table kind column by pred span
unfolding aggregate_runs
runs_plain db table kind column None pred span = ap (runs_in kind column span) (fun_ext (all_there db table pred span))
runs_plain db table kind column (Some by) pred span =
    ap (λ g. flat_map g (values_of by (rows_of db table))) (fun_ext (λ value. ap (λ rows. group_runs kind column span rows value) (fun_ext (group_there db table pred span by value))))

-- the pairs of the rows of two tables are those of the join over the database
pub pairs_plain : (db : plain.Database) (left : ℕ) (left_pred : TypedPred) (right : ℕ) (right_pred : TypedPred) (left_on right_on : ℕ) (span : Span) → in_order pair_before (pairs_of left_pred right_pred left_on right_on span (rows_of db left) (rows_of db right)) ≡ joined_pairs db left left_pred right right_pred left_on right_on span
unfolding joined_pairs
pairs_plain db left left_pred right right_pred left_on right_on span = refl
