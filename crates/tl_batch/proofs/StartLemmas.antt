-- The places of lines by their key and their start.
use Rattle.std.proofs.Common.{◌≡◌, ℕ, zero, suc, ◌+◌, ◌<◌, ◌≤◌, ◌⊎◌, inl, inr, ℤ, Bool, true, false, ◌&&◌, cond, List, [], ◌∷◌, length, take, get_or, slice_get, Option, Some, None, subst, refl, sym, ap, ◌∙◌, arith}
use Rattle.std.specs.Ordering.{int_eq}
use Rattle.std.specs.Cmp.{int_eq_equiv}
use Rattle.std.specs.Map.{lookup}
use Rattle.std.proofs.lemmas.Bool.{cases_eq}
use Rattle.std.proofs.lemmas.Option.{slice_get_read}
use Rattle.tl_types.specs.declared.cells.Cell.{Cell}
use Rattle.tl_types.specs.Plain as plain
use Rattle.tl_types.specs.History.{same_cell}
use Rattle.tl_types.specs.Resolving.{same_key}
use Rattle.tl_batch.specs.declared.line_places.LineStart.{LineStart}
use Rattle.tl_batch.specs.contracts.line_places.LineStartPartialEq.TheImpl as equal
use Rattle.tl_batch.specs.Syncing.{ArePlaced, HaveOwnStarts, place_at, same_start, start_of}
use Rattle.tl_batch.proofs.KeyIndexLemmas.{cell_sym, cell_self, eq_is}

start_eq : (x y : LineStart) → equal.eq-value.it x y ≡ (same_cell x.key y.key && int_eq x.from y.from)
start_eq x y = grind (arith, eq_is x.key y.key)

finds_start : (x : LineStart) (places : List (LineStart × ℕ)) → lookup (equal.eq-value.it x) places ≡ place_at x.key x.from places
finds_start x [] = refl
finds_start x (e ∷ places) = grind (arith, start_eq x e.0, finds_start x places)

-- a place is put at a key and a start
pub place_put : (key copy : Cell) (from : ℤ) (place : ℕ) (before all after : List (LineStart × ℕ)) → copy ≡ key → before ≡ all
    → ((q : LineStart) → lookup (equal.eq-value.it q) after ≡ cond (equal.eq-value.it (record { key = copy; from = from }) q) (Some place) (lookup (equal.eq-value.it q) before))
    → (x : Cell) (t : ℤ) → place_at x t after ≡ cond (same_cell x key && int_eq t from) (Some place) (place_at x t all)
place_put key copy from place before all after same view update x t =
    let q : LineStart = record { key = x; from = t } in
    grind (arith, finds_start q after, finds_start q before, start_eq (record { key = copy; from = from }) q, update q, cell_sym x key, int_eq_equiv.symm t from)

-- PLACES OF THE FIRST LINES

pub taken_at : {X : Type 0} (xs : List X) (n i : ℕ) (x : X) → slice_get (take n xs) i ≡ Some x → (i < n) × (slice_get xs i ≡ Some x)
taken_at [] zero i x e = absurd (cc)
taken_at [] (suc n) i x e = absurd (cc)
taken_at (y ∷ xs) zero i x e = absurd (cc)
taken_at (y ∷ xs) (suc n) zero x e = (omega arith, e)
taken_at (y ∷ xs) (suc n) (suc i) x e = let later = taken_at xs n i x e in (let h = later.0 in omega arith, later.1)

pub at_taken : {X : Type 0} (xs : List X) (n i : ℕ) (x : X) → i < n → slice_get xs i ≡ Some x → slice_get (take n xs) i ≡ Some x
at_taken [] n i x h e = absurd (cc)
at_taken (y ∷ xs) zero i x h e = absurd (omega arith)
at_taken (y ∷ xs) (suc n) zero x h e = e
at_taken (y ∷ xs) (suc n) (suc i) x h e = at_taken xs n i x (omega arith) e

pub at_whole : {X : Type 0} (xs : List X) (n i : ℕ) (x : X) → length xs ≤ n → slice_get xs i ≡ Some x → slice_get (take n xs) i ≡ Some x
at_whole [] n i x h e = absurd (cc)
at_whole (y ∷ xs) zero i x h e = absurd (omega arith)
at_whole (y ∷ xs) (suc n) zero x h e = e
at_whole (y ∷ xs) (suc n) (suc i) x h e = at_whole xs n i x (omega arith) e

-- the places of all lines
pub all_placed : (place : ℕ) (lines : List plain.Opened) (i : ℕ) (places : List (LineStart × ℕ)) → length lines ≤ i → ArePlaced place (take i lines) places → ArePlaced place lines places
all_placed place lines i places h placed j o k e f = placed j o k (at_whole lines i j o h e) f

-- a line more
pub placed_more : (place : ℕ) (lines : List plain.Opened) (i : ℕ) (line : plain.Opened) (key : Cell) (from : ℤ) (before after : List (LineStart × ℕ)) → HaveOwnStarts place lines → i < length lines → line ≡ get_or lines i line
    → place < length line.cells → key ≡ get_or line.cells place key → from ≡ start_of line.period → ((x : Cell) (t : ℤ) → place_at x t after ≡ cond (same_cell x key && int_eq t from) (Some i) (place_at x t before))
    → ArePlaced place (take i lines) before → ArePlaced place (take (i + 1) lines) after
placed_more place lines i line key from before after own h at there is start put placed j o k e f = by_place (cases_eq j i) where
  here : slice_get lines i ≡ Some line
  here = slice_get_read lines (length lines) i line refl h at

  keyed : slice_get line.cells place ≡ Some key
  keyed = slice_get_read line.cells (length line.cells) place key refl there is

  among : (j < i + 1) × (slice_get lines j ≡ Some o)
  among = taken_at lines (i + 1) j o e

  by_place : (j ≡ i) ⊎ (j ≡ i → ⊥) → place_at k (start_of o.period) after ≡ Some j
  by_place (inl same) =
      let line_is : o ≡ line = let a : Some line ≡ Some o = sym here ∙ (ap (slice_get lines) (sym same) ∙ among.1) in cc in
      let key_is : k ≡ key = let b : Some key ≡ Some k = sym keyed ∙ (ap (λ (l : plain.Opened). slice_get l.cells place) (sym line_is) ∙ f) in cc in
      let start_is : start_of o.period ≡ from = ap (λ (l : plain.Opened). start_of l.period) line_is ∙ sym start in
      grind (arith, put k (start_of o.period), cell_self key, int_eq_equiv.refl from)
  by_place (inr other) =
      let before_it : j < i = let a = among.0 in omega (arith, other) in
      let apart : same_start place o line ≡ false = own j i o line before_it among.1 here in
      let none : (same_cell k key && int_eq (start_of o.period) from) ≡ false =
      sym (ap (λ a. same_key a (slice_get line.cells place) && int_eq (start_of o.period) (start_of line.period)) f ∙ (ap (λ b. same_key (Some k) b && int_eq (start_of o.period) (start_of line.period)) keyed ∙ ap (λ s. same_cell k key && int_eq (start_of o.period) s) (sym start)))
      ∙ apart in
      let earlier : place_at k (start_of o.period) before ≡ Some j = placed j o k (at_taken lines i j o before_it among.1) f in
      put k (start_of o.period) ∙ (ap (λ b. cond b (Some i) (place_at k (start_of o.period) before)) none ∙ earlier)
