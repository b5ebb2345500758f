-- A text that is written piece by piece.
use Rattle.std.proofs.Common.{◌≡◌, ℕ, zero, suc, ◌+◌, ◌≤◌, arith, List, [], ◌∷◌, ◌++◌, length, take, Option, Some, None, ap, sym, ◌∙◌, refl}
use Rattle.std.proofs.lemmas.List.{append_assoc, append-nil, length-append}
use Rattle.tl_device.specs.Known.{append_known}
use Rattle.tl_log.specs.Writing.{Sends, WritesPart}

-- nothing is written
append_none : (w : Option (List ℕ)) → w ≡ append_known w []
append_none None = refl
append_none (Some bytes) = ap Some (sym (append-nil bytes))

-- one text and then another
append_twice : (w : Option (List ℕ)) (x y : List ℕ)
    → append_known (append_known w x) y ≡ append_known w (x ++ y)
append_twice None x y = refl
append_twice (Some bytes) x y = ap Some (append_assoc bytes x y)

-- the first part of a text goes on into what stands behind it
take_behind : (sent rest : List ℕ) (n : ℕ) → take (length sent + n) (sent ++ rest) ≡ sent ++ take n rest
take_behind [] rest n = let e : 0 + n ≡ n = omega arith in ap (λ m. take m rest) e
take_behind (x ∷ sent) rest n =
    let e : suc (length sent) + n ≡ suc (length sent + n) = omega arith in
    ap (λ m. take m (x ∷ sent ++ rest)) e ∙ ap (λ l. x ∷ l) (take_behind sent rest n)

-- and is one of more
take_within : (bytes rest : List ℕ) (n : ℕ) → n ≤ length bytes → take n bytes ≡ take n (bytes ++ rest)
take_within bytes rest zero h = refl
take_within [] rest (suc n) h = absurd (omega (arith, h))
take_within (x ∷ bytes) rest (suc n) h = ap (λ l. x ∷ l) (take_within bytes rest n (omega (arith, h)))

-- so far nothing is written
pub sends_none : (text : List ℕ) (w : Option (List ℕ)) → Sends text text w w
sends_none text w = record { sent = []; written = append_none w; left = refl }

-- a piece that begins the text is written
pub sends_piece : (text bytes rest : List ℕ) (old new : Option (List ℕ)) → bytes ++ rest ≡ text
    → new ≡ append_known old bytes → Sends text rest old new
sends_piece text bytes rest old new whole is = record { sent = bytes; written = is; left = whole }

-- and then one more
pub sends_then : (text rest later : List ℕ) (a b c : Option (List ℕ)) → Sends text rest a b
    → Sends rest later b c → Sends text later a c
sends_then text rest later a b c first second = record {
  sent = first.sent ++ second.sent;
  written = second.written ∙ ap (λ w. append_known w second.sent) first.written ∙ append_twice a first.sent second.sent;
  left = append_assoc first.sent second.sent later ∙ ap (λ l. first.sent ++ l) second.left ∙ first.left;
}

-- nothing is left
pub sends_all : (text rest : List ℕ) (a b : Option (List ℕ)) → rest ≡ [] → Sends text rest a b
    → b ≡ append_known a text
sends_all text rest a b none s =
    s.written ∙ ap (append_known a) (sym (append-nil s.sent) ∙ ap (λ l. s.sent ++ l) (sym none) ∙ s.left)

-- some part of a piece is one of the text that begins with it
pub part_begins : (text bytes rest : List ℕ) (old new : Option (List ℕ)) → bytes ++ rest ≡ text
    → WritesPart bytes old new → WritesPart text old new
part_begins text bytes rest old new whole (some, few, is) = (
  some,
  let e = ap length whole in let f = length-append bytes rest in omega arith,
  is ∙ ap (append_known old) (take_within bytes rest some few ∙ ap (take some) whole),
)

-- some part of what is left behind a piece
pub part_then : (text rest : List ℕ) (a b c : Option (List ℕ)) → Sends text rest a b
    → WritesPart rest b c → WritesPart text a c
part_then text rest a b c s (some, few, is) = (
  length s.sent + some,
  let e = ap length s.left in let f = length-append s.sent rest in omega arith,
  is ∙ ap (λ w. append_known w (take some rest)) s.written ∙ append_twice a s.sent (take some rest)
      ∙ ap (append_known a) (sym (take_behind s.sent rest some) ∙ ap (take (length s.sent + some)) s.left),
)

-- nothing of a text is a part of it
pub part_none : (text : List ℕ) (w : Option (List ℕ)) → WritesPart text w w
part_none text w = (zero, omega arith, append_none w)
