-- Texts that were looked up already, and the codes of cells that are lent.
use Rattle.std.proofs.Common.{◌≡◌, ℕ, ◌+◌, ◌<◌, Bool, true, false, cond, nat_eq, List, [], ◌∷◌, ◌++◌, length, get_or, take, Option, Some, None, IfSome, if◌then◌else◌, refl, sym, ap, ◌∙◌, subst, arith}
use Rattle.std.specs.Borrow.{Bor}
use Rattle.std.specs.HashMap.{HashMap, get, Updates}
use Rattle.std.specs.Cmp.Lexicographic.{pointwise}
use Rattle.std.proofs.lemmas.List.{take_more, map_push}
use Rattle.std.proofs.lemmas.Slice.Eq.{bytes_eq-Decides}
use Rattle.tl_column.specs.Dictionary.{text_of, contains_text, with_text, lent_texts, KnowsCodes}
use Rattle.tl_column.proofs.Coding.{contains_at, fold_kept, fold_longer}

-- texts are the same key where they have the same bytes
abbrev pub same_key : Bor (List ℕ) → Bor (List ℕ) → Bool
same_key x y = pointwise nat_eq x.now y.now

pub known_code : {S : Type 0} (texts : List (List ℕ)) (known : HashMap (Bor (List ℕ)) ℕ S) (text : Bor (List ℕ)) (code : ℕ) → KnowsCodes texts known → Some code ≡ get same_key known text → (code < length texts) × (text_of texts code ≡ text.now)
known_code texts known text code all is =
    subst (λ o. IfSome o (λ c. (c < length texts) × (text_of texts c ≡ text.now))) (sym is) (all text)

-- a text that has a code is there already
pub known_with : (texts : List (List ℕ)) (text : List ℕ) (code : ℕ) → code < length texts → text_of texts code ≡ text → texts ≡ with_text texts text
known_with texts text code h is =
    let there : contains_text texts text ≡ true = ap (contains_text texts) (sym is) ∙ contains_at texts code h in
    ap (λ b. if b then texts else (texts ++ text ∷ [])) (sym there)

-- one more text that is known
module _ {S : Type 0} (texts new : List (List ℕ)) (known more : HashMap (Bor (List ℕ)) ℕ S) (key : Bor (List ℕ)) (code : ℕ) (text : List ℕ) (grown : new ≡ with_text texts text) (valid : code < length new) (is : text_of new code ≡ key.now) (all : KnowsCodes texts known) where
  kept : (q : List ℕ) (o : Option ℕ) → IfSome o (λ c. (c < length texts) × (text_of texts c ≡ q)) → IfSome o (λ c. (c < length new) × (text_of new c ≡ q))
  kept q None h = tt
  kept q (Some c) h = (
    omega (arith, h.0, ap length grown, fold_longer (text ∷ []) texts),
    ap (λ ts. text_of ts c) grown ∙ fold_kept (text ∷ []) texts c h.0 ∙ h.1,
  )

  known_at : (q : Bor (List ℕ)) (b : Bool) → same_key key q ≡ b → IfSome (cond b (Some code) (get same_key known q)) (λ c. (c < length new) × (text_of new c ≡ q.now))
  known_at q true e = (valid, is ∙ (bytes_eq-Decides key.now q.now).0 e)
  known_at q false e = kept q.now (get same_key known q) (all q)

  pub known_more : Updates same_key known more key (Some code) → KnowsCodes new more
  known_more updates = λ q.
      subst (λ o. IfSome o (λ c. (c < length new) × (text_of new c ≡ q.now))) (sym (updates.0 q)) (known_at q (same_key key q) refl)

-- one more cell that is lent
pub lent_more : (cells : List (Bor (List ℕ))) (i : ℕ) (cell : Bor (List ℕ)) → i < length cells → cell ≡ get_or cells i cell → lent_texts (take (i + 1) cells) ≡ lent_texts (take i cells) ++ cell.now ∷ []
lent_more cells i cell h is =
    ap lent_texts (take_more cells i cell h ∙ ap (λ c. take i cells ++ c ∷ []) (sym is)) ∙ map_push (λ c. c.now) (take i cells) cell
