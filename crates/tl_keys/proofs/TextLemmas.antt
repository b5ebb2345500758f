-- Texts that stand at places with their numbers.
use Rattle.std.proofs.Common.{◌≡◌, ℕ, Bool, true, false, cond, List, Some, None, refl, sym, ap, ◌∙◌, slice_get}
use Rattle.std.specs.Borrow.{Bor}
use Rattle.std.specs.Cmp.Lexicographic.{nat_list_eq_equiv}
use Rattle.tl_types.specs.Names.{same_bytes}
use Rattle.tl_keys.specs.declared.text_keys.Placed.{Placed}
use Rattle.tl_keys.specs.Keys.{text_number}
use Rattle.tl_keys.specs.Placed.{ArePlaced}
use Rattle.tl_keys.proofs.KeyLemmas.{same_texts}

-- a key that is the text at a place has its number
pub placed_equal : (placed : List Placed) (i : ℕ) (there : Placed) (key : List ℕ) → slice_get placed i ≡ Some there → same_bytes there.text.now key ≡ true → (texts : List (Bor (List ℕ) × ℕ)) → ArePlaced placed texts → text_number texts key ≡ Some there.number
placed_equal placed i there key is same = λ texts are. sym (same_texts there.text.now key texts same) ∙ are i there is

-- a text that had no number gets one
pub more_placed : (placed : List Placed) (old new : List (Bor (List ℕ) × ℕ)) (number : ℕ) (key : List ℕ) → text_number old key ≡ None → ((q : List ℕ) → text_number new q ≡ cond (same_bytes key q) (Some number) (text_number old q)) → ArePlaced placed old → ArePlaced placed new
more_placed placed old new number key none more are = λ i there is. by_test there.text.now there.number (same_bytes key there.text.now) refl (are i there is) where
  by_test : (t : List ℕ) (n : ℕ) (b : Bool) → same_bytes key t ≡ b → text_number old t ≡ Some n → text_number new t ≡ Some n
  by_test t n true e h = absurd (let a : None ≡ Some n = sym none ∙ same_texts key t old e ∙ h in cc)
  by_test t n false e h = more t ∙ ap (λ b. cond b (Some number) (text_number old t)) e ∙ h

pub text_has : (old new : List (Bor (List ℕ) × ℕ)) (number : ℕ) (key : List ℕ) → ((q : List ℕ) → text_number new q ≡ cond (same_bytes key q) (Some number) (text_number old q)) → text_number new key ≡ Some number
text_has old new number key more = more key ∙ ap (λ b. cond b (Some number) (text_number old key)) (nat_list_eq_equiv.refl key)

-- what a map with one text more says of each text
pub more_texts : (old new : List (Bor (List ℕ) × ℕ)) (number : ℕ) (key : Bor (List ℕ)) → ((q : Bor (List ℕ)) → text_number new q.now ≡ cond (same_bytes key.now q.now) (Some number) (text_number old q.now)) → (q : List ℕ) → text_number new q ≡ cond (same_bytes key.now q) (Some number) (text_number old q)
more_texts old new number key more q = more (record key { now = q })
