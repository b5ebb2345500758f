-- When rows are there: between two moments at which nothing begins or ends, the same rows are.
use Rattle.std.proofs.Common.{◌≡◌, ℕ, ◌+◌, ◌<◌, ℤ, ◌≤ℤ◌, ◌<ℤ◌, int_le, int_lt, Bool, true, false, List, [], ◌∷◌, length, take, get_or, Some, All, inl, inr, refl, subst, arith}
use Rattle.std.proofs.lemmas.List.Elements.{All-more, All-weaker, All-head, All-tail}
use Rattle.std.proofs.lemmas.Int.{ints}
use Rattle.std.specs.List.{filter}
use Rattle.tl_types.specs.History.{is_within}
use Rattle.tl_types.specs.Plain as plain
use Rattle.tl_query.specs.declared.typed_queries.Span.{Span}
use Rattle.tl_query.specs.Joins.{times_of}
use Rattle.tl_plain.specs.Choosing.{IsClear, IsSteady, is_there, there_at}

pub le_test : (a b : ℤ) → a ≤ℤ b → int_le a b ≡ true
le_test a b h = grind (arith, ints)

pub not_le_test : (a b : ℤ) → b <ℤ a → int_le a b ≡ false
not_le_test a b h = grind (arith, ints)

pub lt_test : (a b : ℤ) → a <ℤ b → int_lt a b ≡ true
lt_test a b h = grind (arith, ints)

pub not_lt_test : (a b : ℤ) → b ≤ℤ a → int_lt a b ≡ false
not_lt_test a b h = grind (arith, ints)

within_same : (at next moment : ℤ) (p : plain.Period) → at ≤ℤ moment → moment <ℤ next → IsClear at next p.from → IsClear at next p.to → is_within moment (Some p) ≡ is_within at (Some p)
within_same at next moment p after before (inl a) (inl b) =
    rw (le_test p.from moment (omega (arith, ints)), le_test p.from at a, not_lt_test moment p.to (omega (arith, ints)), not_lt_test at p.to b) refl
within_same at next moment p after before (inl a) (inr b) =
    rw (le_test p.from moment (omega (arith, ints)), le_test p.from at a, lt_test moment p.to (omega (arith, ints)), lt_test at p.to (omega (arith, ints))) refl
within_same at next moment p after before (inr a) t =
    rw (not_le_test p.from moment (omega (arith, ints)), not_le_test p.from at (omega (arith, ints))) refl

clear_sooner : (at next less change : ℤ) → less ≤ℤ next → IsClear at next change → IsClear at less change
clear_sooner at next less change h (inl a) = inl a
clear_sooner at next less change h (inr a) = inr (omega (arith, ints))

-- the two changes of a row do not come between the moments
pub quiet_times : (span : Span) (row : plain.Row) (at next less : ℤ) (p : plain.Period) → times_of span row ≡ Some p → less ≤ℤ next → IsClear at next p.from → IsClear at less p.to → IsSteady span at less row
quiet_times span row at next less p e h from to moment after before =
    rw e (within_same at less moment p after before (clear_sooner at next less p.from h from) to)

-- QUIET ROWS

quiet_sooner : (span : Span) (row : plain.Row) (at next less : ℤ) → less ≤ℤ next → IsSteady span at next row → IsSteady span at less row
quiet_sooner span row at next less h quiet moment after before = quiet moment after (omega (arith, ints))

pub more_quiet : (span : Span) (rows : List plain.Row) (i : ℕ) (row : plain.Row) (at next less : ℤ) → i < length rows → row ≡ get_or rows i row → less ≤ℤ next → All (IsSteady span at next) (take i rows) → IsSteady span at less row → All (IsSteady span at less) (take (i + 1) rows)
more_quiet span rows i row at next less l is h before here =
    All-more (IsSteady span at less) rows i row l (All-weaker (IsSteady span at next) (IsSteady span at less) (λ x q. quiet_sooner span x at next less h q) (take i rows) before) (subst (IsSteady span at less) is here)

filter_same : {X : Type 0} → (p q : X → Bool) (xs : List X) → All (λ x. p x ≡ q x) xs → filter p xs ≡ filter q xs
filter_same p q [] h = refl
filter_same p q (x ∷ xs) h =
    let here = All-head (λ y. p y ≡ q y) x xs h in
    let later = filter_same p q xs (All-tail (λ y. p y ≡ q y) x xs h) in
    rw (here, later) refl

-- the same rows are there at each moment before the next change
pub there_same : (span : Span) (rows : List plain.Row) (at next : ℤ) → All (IsSteady span at next) rows → (moment : ℤ) → at ≤ℤ moment → moment <ℤ next → there_at span rows moment ≡ there_at span rows at
there_same span rows at next quiet moment after before =
    filter_same (is_there span moment) (is_there span at) rows (All-weaker (IsSteady span at next) (λ row. is_there span moment row ≡ is_there span at row) (λ row q. q moment after before) rows quiet)
