-- What the room of the bytes in hand holds after bytes were moved to its start or read behind them.
use Rattle.std.proofs.Common.{◌≡◌, ℕ, ◌+◌, ◌-◌, ◌<◌, ◌≤◌, true, List, ◌++◌, length, take, drop, Option, Ok, refl, ap, sym, ◌∙◌, arith, zero, suc, take-add}
use Rattle.std.proofs.Math.Seq.{paste, take-append_seam}
use Rattle.std.proofs.lemmas.List.{drop-take, drop-append-le, length-take-le, length-drop}
use Rattle.std.proofs.lemmas.List.Edits.{take-paste}
use Rattle.tl_device.specs.Known.{prepend_known}
use Rattle.tl_script.specs.InHand.{Refills}

-- bytes that were moved to the start
pub moved : (xs ys : List ℕ) (i j : ℕ) → i ≤ j → j ≤ length xs → ys ≡ paste xs 0 (drop i xs) (j - i) → take (j - i) ys ≡ drop i (take j xs)
moved xs ys i j le within e =
    let n : 0 + (j - i) ≡ j - i = omega arith in
    let m : i + (j - i) ≡ j = omega (arith, le) in
    let len = length-drop i xs in
    ap (take (j - i)) e
    ∙ (ap (λ k. take k (paste xs 0 (drop i xs) (j - i))) (sym n)
    ∙ (take-paste xs 0 (drop i xs) (j - i) (omega arith) (omega (arith, within, len))
    ∙ (sym (drop-take i (j - i) xs) ∙ ap (λ k. drop i (take k xs)) m)))

-- bytes that were read behind those in hand
read_more : (place end number : ℕ) (held room : List ℕ) → place ≤ end → take end room ≡ take end held → length room ≡ end + 65536 → drop place (take (end + number) room) ≡ drop place (take end held) ++ take number (drop end room)
read_more place end number held room le same len =
    let front : length (take end room) ≡ end = length-take-le end room (omega (arith, len)) in
    ap (drop place) (take-add end number room)
    ∙ (drop-append-le place (take end room) (take number (drop end room)) (omega (arith, front, le))
    ∙ ap (λ xs. drop place xs ++ take number (drop end room)) same)

not_none : (n : ℕ) → (n ≡ 0 → ⊥) → 0 < n
not_none zero h = absurd (h refl)
not_none (suc n) h = omega arith

pub refilled : (old held made room : List ℕ) (place end number : ℕ) (before after : Option (List ℕ)) → old ≡ drop place (take end held) → place ≤ end → take end made ≡ take end held → take end room ≡ take end made
    → length room ≡ end + 65536 → number ≤ 65536 → (number ≡ 0 → ⊥) → before ≡ prepend_known (take number (drop end room)) after
    → Refills old before (Ok true) (drop place (take (end + number) room)) after
refilled old held made room place end number before after o le m r len bound some order =
    let behind : length (drop end room) ≡ 65536 = (let l = length-drop end room in omega (arith, l, len)) in
    let taken : length (take number (drop end room)) ≡ number = length-take-le number (drop end room) (omega (arith, behind, bound)) in
    record {
      taken = take number (drop end room);
      order = order;
      bound = omega (arith, taken, bound);
      ends = (read_more place end number held room le (r ∙ m) len ∙ ap (λ xs. xs ++ take number (drop end room)) (sym o), omega (arith, taken, not_none number some));
    }

-- a room whose bytes were all written
pub whole_room : (xs ys : List ℕ) (n m : ℕ) → n ≡ m → length xs ≡ m → xs ≡ take n (xs ++ ys)
whole_room xs ys n m e len = sym (ap (λ k. take k (xs ++ ys)) (e ∙ sym len) ∙ take-append_seam xs ys)
