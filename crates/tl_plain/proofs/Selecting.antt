-- Filtering the rows of a table, one row more at a time, and with their ids or without.
use Rattle.std.proofs.Common.{◌≡◌, ℕ, ℤ, ◌+◌, ◌<◌, Bool, true, false, ◌&&◌, cond, List, [], ◌∷◌, ◌++◌, length, take, map, get_or, Option, Some, None, refl, sym, ap, ◌∙◌}
use Rattle.std.proofs.lemmas.List.{take_more, map-append, append-nil}
use Rattle.std.proofs.lemmas.List.Elements.{filter-append, filter_agree}
use Rattle.std.specs.List.{enumerate_from, filter}
use Rattle.tl_types.specs.History.{is_visible, rows_of, is_within, with_ids}
use Rattle.tl_types.specs.Plain as plain
use Rattle.tl_query.specs.declared.typed_queries.TypedItem.{TypedItem}
use Rattle.tl_query.specs.declared.typed_queries.TypedPred.{TypedPred}
use Rattle.tl_query.specs.Passing.{passes}
use Rattle.tl_query.specs.Fields.{row_fields}
use Rattle.tl_query.specs.Answers.{selected}
use Rattle.tl_plain.specs.Choosing.{is_selected}

grown : {X : Type 0} → (p : X → Bool) (xs : List X) (i : ℕ) (x : X) → i < length xs → x ≡ get_or xs i x → filter p (take (i + 1) xs) ≡ filter p (take i xs) ++ filter p (x ∷ [])
grown p xs i x h e =
    ap (filter p) (take_more xs i x h ∙ ap (λ y. take i xs ++ y ∷ []) (sym e)) ∙ filter-append p (take i xs) (x ∷ [])

pub row_kept : {X Y : Type 0} → (p : X → Bool) (f : X → Y) (xs : List X) (i : ℕ) (x : X) (out new : List Y) → i < length xs → x ≡ get_or xs i x → p x ≡ true → new ≡ out ++ f x ∷ [] → out ≡ map f (filter p (take i xs)) → new ≡ map f (filter p (take (i + 1) xs))
row_kept p f xs i x out new h e px step was =
    let more = ap (map f) (grown p xs i x h e) in
    let one : filter p (x ∷ []) ≡ x ∷ [] = rw px refl in
    let parts = map-append f (filter p (take i xs)) (x ∷ []) in
    cc

pub row_left : {X Y : Type 0} → (p : X → Bool) (f : X → Y) (xs : List X) (i : ℕ) (x : X) (out : List Y) → i < length xs → x ≡ get_or xs i x → p x ≡ false → out ≡ map f (filter p (take i xs)) → out ≡ map f (filter p (take (i + 1) xs))
row_left p f xs i x out h e px was =
    let more = ap (map f) (grown p xs i x h e) in
    let one : filter p (x ∷ []) ≡ [] = rw px refl in
    let none = append-nil (filter p (take i xs)) in
    cc

pub filter_twice : {X : Type 0} (p q : X → Bool) (xs : List X) → filter q (filter p xs) ≡ filter (λ x. p x && q x) xs
filter_twice p q [] = refl
filter_twice p q (x ∷ xs) =
    let later = filter_twice p q xs in
    elim (p x) as (λ b. filter q (cond b (x ∷ filter p xs) (filter p xs)) ≡ cond (b && q x) (x ∷ filter (λ y. p y && q y) xs) (filter (λ y. p y && q y) xs)) [ true ↦ ap (λ ys. cond (q x) (x ∷ ys) ys) later | false ↦ later ]

pub without_ids : {Y : Type 0} → (f : plain.Row → Y) (p : plain.Row → Bool) (n : ℕ) (rows : List plain.Row) → map (λ r. f r.1) (filter (λ r. p r.1) (enumerate_from n rows)) ≡ map f (filter p rows)
without_ids f p n [] = refl
without_ids f p n (row ∷ rows) =
    let later = without_ids f p (n + 1) rows in
    elim (p row) as (λ b. map (λ r. f r.1) (cond b ((n, row) ∷ filter (λ r. p r.1) (enumerate_from (n + 1) rows)) (filter (λ r. p r.1) (enumerate_from (n + 1) rows))) ≡ map f (cond b (row ∷ filter p rows) (filter p rows))) [ true ↦ ap (λ ys. f row ∷ ys) later | false ↦ later ]

pub and_true : (b : Bool) → (b && true) ≡ b
and_true true = refl
and_true false = refl

-- the rows that are selected, without their ids
pub selected_plain : (db : plain.Database) (table : ℕ) (items : List TypedItem) (pred : TypedPred) (valid_at : Option ℤ) (version : ℕ) → map (row_fields items) (filter (is_selected pred valid_at version) (rows_of db table)) ≡ selected db table items pred valid_at version
selected_plain db table items pred None version =
    let rows = rows_of db table in
    let both = filter_twice (λ (r : ℕ × plain.Row). is_visible version r.1) (λ (r : ℕ × plain.Row). passes pred r.1) (with_ids rows) in
    let bare = without_ids (row_fields items) (λ row. is_visible version row && passes pred row) 0 rows in
    let same = filter_agree (is_selected pred None version) (λ (row : plain.Row). is_visible version row && passes pred row) (λ row. ap (λ b. b && passes pred row) (and_true (is_visible version row))) rows in
    ap (map (row_fields items)) same ∙ sym bare ∙ sym (ap (map (λ (r : ℕ × plain.Row). row_fields items r.1)) both)
selected_plain db table items pred (Some moment) version =
    let rows = rows_of db table in
    let seen = filter_twice (λ (r : ℕ × plain.Row). is_visible version r.1) (λ (r : ℕ × plain.Row). is_within moment r.1.period) (with_ids rows) in
    let both = filter_twice (λ (r : ℕ × plain.Row). is_visible version r.1 && is_within moment r.1.period) (λ (r : ℕ × plain.Row). passes pred r.1) (with_ids rows) in
    let bare = without_ids (row_fields items) (is_selected pred (Some moment) version) 0 rows in
    sym bare ∙ sym (ap (λ rs. map (λ (r : ℕ × plain.Row). row_fields items r.1) (filter (λ (r : ℕ × plain.Row). passes pred r.1) rs)) seen ∙ ap (map (λ (r : ℕ × plain.Row). row_fields items r.1)) both)
