-- What is added up of a list with one item more.
use Rattle.std.proofs.Common.{◌≡◌, ℕ, ◌+◌, ◌*◌, ℤ, pos, ◌+ℤ◌, ◌≤ℤ◌, neg_ℤ, cond, List, [], ◌∷◌, ◌++◌, length, map, fold, refl, sym, ap, ◌∙◌, arith, subst, length-append}
use Rattle.std.specs.List.{count_by, sum_by}
use Rattle.std.specs.Ordering.{int_eq}
use Rattle.std.proofs.lemmas.List.{map-append}
use Rattle.std.proofs.lemmas.Int.{ints}
use Rattle.std.proofs.lemmas.List.Sums.{sum_by-append}
use Rattle.tl_query.specs.Aggregates.{total_of}
use Rattle.tl_running.specs.Standing.{IsShort, AreShort, Inserts}

pub inserts_map : {X Y : Type 0} (h : X → Y) (x : X) (fewer more : List X) → Inserts x fewer more → Inserts (h x) (map h fewer) (map h more)
inserts_map h x fewer more i = record {
  front = map h i.front;
  back = map h i.back;
  without = ap (map h) i.without ∙ map-append h i.front i.back;
  with = ap (map h) i.with ∙ map-append h i.front (x ∷ i.back);
}

pub inserts_length : {X : Type 0} (x : X) (fewer more : List X) → Inserts x fewer more → length more ≡ length fewer + 1
inserts_length x fewer more i =
    let a = ap length i.with ∙ length-append i.front (x ∷ i.back) in
    let b = ap length i.without ∙ length-append i.front i.back in omega arith

total_from : (a : ℤ) (ns : List ℤ) → fold ◌+ℤ◌ a ns ≡ a +ℤ total_of ns
total_from a [] = omega (arith, ints)
total_from a (n ∷ ns) =
    let h = total_from (a +ℤ n) ns in
    let k = total_from (pos 0 +ℤ n) ns in omega (arith, ints)

total_seam : (front back : List ℤ) (n : ℤ) → total_of (front ++ n ∷ back) ≡ total_of (front ++ back) +ℤ n
total_seam [] back n = let h = total_from (pos 0 +ℤ n) back in omega (arith, ints)
total_seam (m ∷ front) back n =
    let h = total_from (pos 0 +ℤ m) (front ++ n ∷ back) in
    let k = total_from (pos 0 +ℤ m) (front ++ back) in
    let ih = total_seam front back n in omega (arith, ints)

pub inserts_total : (n : ℤ) (fewer more : List ℤ) → Inserts n fewer more → total_of more ≡ total_of fewer +ℤ n
inserts_total n fewer more i = ap total_of i.with ∙ total_seam i.front i.back n ∙ ap (λ t. t +ℤ n) (sym (ap total_of i.without))

abbrev counted : ℤ → List ℤ → ℕ
counted v ns = sum_by (λ n. cond (int_eq v n) 1 0) ns

count_seam : (v : ℤ) (front back : List ℤ) (n : ℤ) → counted v (front ++ n ∷ back) ≡ counted v (front ++ back) + cond (int_eq v n) 1 0
count_seam v front back n =
    let a = sum_by-append (λ n. cond (int_eq v n) 1 0) front (n ∷ back) in
    let b = sum_by-append (λ n. cond (int_eq v n) 1 0) (n ∷ []) back in
    let c = sum_by-append (λ n. cond (int_eq v n) 1 0) front back in
    let d : counted v (n ∷ []) ≡ 0 + cond (int_eq v n) 1 0 = refl in
    step (counted v (front ++ n ∷ back)) (counted v (front ++ back)) (counted v front) (counted v back) (counted v (n ∷ back)) (counted v (n ∷ [])) (cond (int_eq v n) 1 0) a b c d where
      step : (x y f b m o t : ℕ) → x ≡ f + m → m ≡ o + b → y ≡ f + b → o ≡ 0 + t → x ≡ y + t
      step x y f b m o t h i j k = omega arith

pub inserts_count : (v n : ℤ) (fewer more : List ℤ) → Inserts n fewer more → count_by (int_eq v) more ≡ count_by (int_eq v) fewer + cond (int_eq v n) 1 0
inserts_count v n fewer more i = ap (counted v) i.with ∙ count_seam v i.front i.back n ∙ ap (λ t. t + cond (int_eq v n) 1 0) (sym (ap (counted v) i.without))

short_seam_in : (front back : List ℤ) (n : ℤ) → IsShort n → AreShort (front ++ back) → AreShort (front ++ n ∷ back)
short_seam_in [] back n h s = (h, s)
short_seam_in (m ∷ front) back n h s = (s.0, short_seam_in front back n h s.1)

short_seam_out : (front back : List ℤ) (n : ℤ) → AreShort (front ++ n ∷ back) → AreShort (front ++ back)
short_seam_out [] back n s = s.1
short_seam_out (m ∷ front) back n s = (s.0, short_seam_out front back n s.1)

pub inserts_short : (n : ℤ) (fewer more : List ℤ) → Inserts n fewer more → IsShort n → AreShort fewer → AreShort more
inserts_short n fewer more i h s = subst AreShort (sym i.with) (short_seam_in i.front i.back n h (subst AreShort i.without s))

pub removes_short : (n : ℤ) (fewer more : List ℤ) → Inserts n fewer more → AreShort more → AreShort fewer
removes_short n fewer more i s = subst AreShort (sym i.without) (short_seam_out i.front i.back n (subst AreShort i.with s))

-- a sum of short numbers
pub short_total : (ns : List ℤ) → AreShort ns → (neg_ℤ (pos (9223372036854775808 * length ns)) ≤ℤ total_of ns) × (total_of ns ≤ℤ pos (9223372036854775808 * length ns))
short_total [] s = (omega (arith, ints), omega (arith, ints))
short_total (n ∷ ns) s =
    let ih = short_total ns s.1 in
    let h = total_from (pos 0 +ℤ n) ns in
    let a = s.0.0 in
    let b = s.0.1 in
    let c = ih.0 in
    let d = ih.1 in
    (omega (arith, ints), omega (arith, ints))
