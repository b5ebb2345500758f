-- A table at its place among the others.
use Rattle.std.proofs.Common.{◌≡◌, ℕ, zero, suc, ◌+◌, ◌<◌, ◌≤◌, ◌^◌, true, false, leb, List, [], ◌∷◌, ◌++◌, length, map, length-append, get_or, set, All, ◌&&◌, Some, refl, sym, ap, ◌∙◌, arith, slice_get}
use Rattle.std.specs.List.{list_all}
use Rattle.tl_types.specs.History.{at_place, matches, is_open_at, is_open, fits_table, fits_floor, row_after, new_row, with_ids}
use Rattle.tl_types.specs.Limits.{standard_limits}
use Rattle.std.proofs.lemmas.List.{length-map}
use Rattle.std.proofs.lemmas.List.FromFn.{length-enumerate_from}
use borrow.Author.Tests.{leb-true}
use Rattle.tl_types.specs.declared.limits.Limits.{Limits}
use Rattle.tl_types.specs.Plain as plain
use Rattle.tl_types.proofs.Lists.{and_left, and_right, at_place-set, open_ids_within}

-- the table at a place, changed
pub placed_at : {X : Type 0} → (xs : List X) (i j : ℕ) (f : X → X) (x y : X) → i < length xs → j ≡ i → x ≡ get_or xs j x → y ≡ f x → set xs j y ≡ at_place i f xs
placed_at xs i j f x y h k e g = sym (at_place-set xs i f x h ∙ ap (λ z. set xs i (f z)) (ap (λ n. get_or xs n x) (sym k) ∙ sym e) ∙ ap (set xs i) (sym g) ∙ ap (λ n. set xs n y) (sym k))

pub is_open_at-within : (rows : List plain.Row) (id : ℕ) (row : plain.Row) → id < length rows → row ≡ get_or rows id row → is_open_at rows id ≡ is_open row
is_open_at-within [] id row h e = absurd (omega arith)
is_open_at-within (r ∷ rows) zero row h e = ap is_open (sym e)
is_open_at-within (r ∷ rows) (suc id) row h e = is_open_at-within rows id row (omega arith) e

pub is_open_at-past : (rows : List plain.Row) (id : ℕ) → length rows ≤ id → is_open_at rows id ≡ false
is_open_at-past [] id h = refl
is_open_at-past (r ∷ rows) zero h = absurd (omega arith)
is_open_at-past (r ∷ rows) (suc id) h = is_open_at-past rows id (omega arith)

pub closes_within : (limits : Limits) (change : plain.Change) (table : plain.Table) (rows : List plain.Row) → fits_table limits change (Some table) ≡ true → rows ≡ table.rows → All (λ id. id < length rows) change.closes
closes_within limits change table rows h e = rw e (open_ids_within table.rows change.closes (and_left _ _ (and_left _ _ h)))

pub few_after : (version : ℕ) (change : plain.Change) (table : plain.Table) (rows : List plain.Row) → fits_table standard_limits change (Some table) ≡ true → rows ≡ map (row_after version change.closes) (with_ids table.rows) ++ map (new_row version) change.opens → length rows < 2 ^ 32
few_after version change table rows h e =
    let few : length table.rows + length change.opens ≤ 16777216 = leb-true (length table.rows + length change.opens) 16777216 (and_right (list_all (is_open_at table.rows) change.closes && list_all (matches table.schema) change.opens) (leb (length table.rows + length change.opens) 16777216) h) in
    let ended_rows = length-map (with_ids table.rows) (row_after version change.closes) in
    let same = length-enumerate_from 0 table.rows in
    let begun_rows = length-map change.opens (new_row version) in
    let whole = length-append (map (row_after version change.closes) (with_ids table.rows)) (map (new_row version) change.opens) in
    rw e (omega arith)

pub table_within : (limits : Limits) (change : plain.Change) (tables : List plain.Table) (i : ℕ) → fits_table limits change (slice_get tables i) ≡ true → i < length tables
table_within limits change [] i h = absurd cc
table_within limits change (t ∷ ts) zero h = omega arith
table_within limits change (t ∷ ts) (suc i) h = let later = table_within limits change ts i h in omega arith

pub ruleset open_places = (is_open_at-within, is_open_at-past)

pub floor_within : (now floor : ℕ) (tables : List plain.Table) (i : ℕ) → fits_floor now floor (slice_get tables i) ≡ true → i < length tables
floor_within now floor [] i h = absurd cc
floor_within now floor (t ∷ ts) zero h = omega arith
floor_within now floor (t ∷ ts) (suc i) h = let later = floor_within now floor ts i h in omega arith
