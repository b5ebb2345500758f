-- Names and their places.
use Rattle.std.proofs.Common.{◌≡◌, ℕ, zero, suc, ◌+◌, ◌<◌, ◌≤◌, nat_lt, Bool, true, false, not, List, [], ◌∷◌, take, Some, None, refl, ap, sym, ◌∙◌, arith}
use Rattle.std.specs.List.{list_any, position_from}
use Rattle.std.specs.Option.{option_map}
use Rattle.std.specs.Str.{is_utf8}
use Rattle.std.proofs.lemmas.Bool.Decides.{nat_tests}
use Rattle.std.proofs.lemmas.Iterator.Adapters.{position_from-zero}
use Rattle.tl_types.specs.Names.{same_bytes}
use Rattle.tl_csv.specs.declared.faults.CsvFault.TheVariants as fault
use Rattle.tl_csv.specs.Header.{not_utf8, place_of, is_named}

-- the first place, counted from the start
pub first_place : (name : List ℕ) (fields : List (List ℕ)) → position_from (λ field. same_bytes field name) 0 fields ≡ place_of name fields
first_place name fields = sym (position_from-zero (λ field. same_bytes field name) fields)

pub fault_place : (header : List (List ℕ)) → option_map (λ i. fault.NotUtf8 1 (i + 1)) (position_from (λ name. not (is_utf8 name)) 0 header) ≡ not_utf8 header
fault_place header = ap (λ o. option_map (λ i. fault.NotUtf8 1 (i + 1)) o) (sym (position_from-zero (λ name. not (is_utf8 name)) header))

-- a name stands before a place exactly where its first place is less
past_none : (p : List ℕ → Bool) (n i : ℕ) (fields : List (List ℕ)) → position_from p n fields ≡ None → list_any p (take i fields) ≡ false
past_none p n zero fields h = refl
past_none p n (suc i) [] h = refl
past_none p n (suc i) (f ∷ fields) h = by_test (p f) refl (past_none p (n + 1) i fields) where
  by_test : (t : Bool) → p f ≡ t → (position_from p (n + 1) fields ≡ None → list_any p (take i fields) ≡ false) → list_any p (take (suc i) (f ∷ fields)) ≡ false
  by_test true e more = absurd (let g = rw e at h in cc)
  by_test false e more = rw e (more (rw e at h))

not_less : (a b : ℕ) → b ≤ a → nat_lt a b ≡ false
not_less a b h = grind (arith, nat_tests)

less : (a b : ℕ) → a < b → nat_lt a b ≡ true
less a b h = grind (arith, nat_tests)

from_on : (p : List ℕ → Bool) (n place : ℕ) (fields : List (List ℕ)) → position_from p n fields ≡ Some place → n ≤ place
from_on p n place [] h = absurd (cc)
from_on p n place (f ∷ fields) h = by_test (p f) refl (from_on p (n + 1) place fields) where
  by_test : (t : Bool) → p f ≡ t → (position_from p (n + 1) fields ≡ Some place → n + 1 ≤ place) → n ≤ place
  by_test true e more =
      let g : Some n ≡ Some place = rw e at h in
      let same : n ≡ place = cc in
      omega (arith, same)
  by_test false e more = let g = more (rw e at h) in omega (arith, g)

at_place : (p : List ℕ → Bool) (n i place : ℕ) (fields : List (List ℕ)) → position_from p n fields ≡ Some place → list_any p (take i fields) ≡ nat_lt place (n + i)
at_place p n zero place fields h = sym (not_less place (n + 0) (omega (arith, from_on p n place fields h)))
at_place p n (suc i) place [] h = absurd (cc)
at_place p n (suc i) place (f ∷ fields) h = by_test (p f) refl (at_place p (n + 1) i place fields) where
  by_test : (t : Bool) → p f ≡ t → (position_from p (n + 1) fields ≡ Some place → list_any p (take i fields) ≡ nat_lt place (n + 1 + i)) → list_any p (take (suc i) (f ∷ fields)) ≡ nat_lt place (n + suc i)
  by_test true e more =
      let g : Some n ≡ Some place = rw e at h in
      let same : n ≡ place = cc in
      rw e (sym (less place (n + suc i) (omega (arith, same))))
  by_test false e more =
      let k : n + 1 + i ≡ n + suc i = omega arith in
      rw e (more (rw e at h) ∙ ap (λ m. nat_lt place m) k)

pub placed_before : (name : List ℕ) (fields : List (List ℕ)) (i place : ℕ) → place_of name fields ≡ Some place → is_named name (take i fields) ≡ nat_lt place i
placed_before name fields i place h =
    let k : 0 + i ≡ i = omega arith in
    at_place (λ field. same_bytes field name) 0 i place fields (first_place name fields ∙ h) ∙ ap (λ m. nat_lt place m) k

pub unplaced_before : (name : List ℕ) (fields : List (List ℕ)) (i : ℕ) → place_of name fields ≡ None → is_named name (take i fields) ≡ false
unplaced_before name fields i h = past_none (λ field. same_bytes field name) 0 i fields (first_place name fields ∙ h)

pub ruleset before_place = (placed_before, unplaced_before)
