-- What one step does to lanes that hold the least, or the greatest, of the values that went by them.
use Rattle.std.proofs.Common.{◌≡◌, ℕ, zero, suc, subst, of_z, to_z, ◌-◌, ◌+◌, ◌++◌, [], ◌∷◌, take, drop, ◌*◌, ◌/◌, ◌%◌, ◌^◌, ◌≤◌, ◌<◌, ◌==◌, ◌⊎◌, List, Bool, true, false, not, cond, length, get_or, map, replicate, refl, sym, ◌∙◌, ap, arith, inl, inr, w64}
use mir.Val.{SFits}
use Rattle.std.proofs.Math.Facts.{to_z-of_z}
use Rattle.std.proofs.lemmas.List.{length-map, get_or-map, length-take-le, length-drop, get_or-take, get_or-drop, ext_get_or, append-nil, get_or_default}
use Rattle.std.proofs.lemmas.List.Elements.{All-push, All-weaker, All-nil, All-cons, All-append, Contains-push, Contains-append_left, Contains-append_right}
use Rattle.std.proofs.Math.Seq.{take-add}
use Rattle.tl_lanes.proofs.PickedLemmas.{before_more, one_if, up_to_behind, up_to_self, up_to_ahead}
use Rattle.std.specs.Prelude.{ℤ, pos, int_lt, All, Contains, bit_and, if◌then◌else◌, ◌&&◌}
use Rattle.std.proofs.lemmas.Int.{ints}
use Rattle.std.specs.Int.{bit_at}
use Rattle.std.proofs.lemmas.Bool.{eq-eqb, ne_eqb, cases_eq}
use Rattle.std.proofs.lemmas.Simd.{tops_compared, length-zip2, get_or-zip2, length-sel_l, get_or-sel_l, get_or-replicate, length-replicate}
use Rattle.std.proofs.lemmas.Nat.Bits.{and_pow, bit_at-lt, bit_at-zero}
use Rattle.std.proofs.Math.Pow.{pow_mono}
use lib.Lanes.{zip2, sel_l, top}
use Rattle.tl_lanes.specs.Masks.{is_bit, bit_of, picked, picked_from, IsUpTo, IsExtreme}
use Rattle.tl_lanes.specs.Lanes.{comes_first, lane, AreLanes, ArePicked, AreFirst, AreNext, Reach}

-- the lane's own bit of a word is not 0 where it is set
pub own_bit : (word l : ℕ) → not (bit_and word (2 ^ l) == 0) ≡ is_bit word l
own_bit word l = by_bit (cases_eq (bit_at word l) 0) where
  some : 1 ≤ 2 ^ l
  some = pow_mono {i = 0} {j = l} (omega arith)

  by_bit : (bit_at word l ≡ 0) ⊎ (bit_at word l ≡ 0 → ⊥) → not (bit_and word (2 ^ l) == 0) ≡ is_bit word l
  by_bit (inl none) =
      let clear : bit_and word (2 ^ l) ≡ 0 = and_pow word l ∙ ap (λ b. b * 2 ^ l) none ∙ (let e : 0 * 2 ^ l ≡ 0 = omega arith in e) in
      ap not (eq-eqb (bit_and word (2 ^ l)) 0 clear) ∙ sym (ap (λ b. b == 1) none)
  by_bit (inr set) =
      let small = bit_at-lt word l in
      let one : bit_at word l ≡ 1 = omega arith in
      let here : bit_and word (2 ^ l) ≡ 1 * 2 ^ l = and_pow word l ∙ ap (λ b. b * 2 ^ l) one in
      ap not (ne_eqb (bit_and word (2 ^ l)) 0 (λ e. let s = some in absurd (omega arith))) ∙ sym (ap (λ b. b == 1) one)

-- a lane that a comparison selects
pub lane_selected : (t : ℕ → ℕ → Bool) (xs ys left right : List ℕ) (n l : ℕ) → length xs ≡ n → length ys ≡ n → length left ≡ n → length right ≡ n → l < n
    → get_or (sel_l (map (top 63) (zip2 (λ a b. cond (t a b) (2 ^ 64 - 1) 0) xs ys)) left right) l 0 ≡ cond (t (get_or xs l 0) (get_or ys l 0)) (get_or left l 0) (get_or right l 0)
lane_selected t xs ys left right n l long_xs long_ys long_left long_right inside =
    let long : length (zip2 t xs ys) ≡ n = length-zip2 t xs ys (long_xs ∙ sym long_ys) ∙ long_xs in
    ap (λ ms. get_or (sel_l ms left right) l 0) (tops_compared w64 t xs ys)
    ∙ get_or-sel_l (zip2 t xs ys) left right l 0 (omega arith) (omega arith) (omega arith)
    ∙ ap (λ b. cond b (get_or left l 0) (get_or right l 0)) (get_or-zip2 t xs ys l 0 0 false (omega arith) (omega arith))

-- the same, of lanes that hold signed numbers
choice : (b : Bool) (raw_left raw_right : ℕ) (left right : ℤ) → to_z w64 raw_left ≡ left → to_z w64 raw_right ≡ right → to_z w64 (cond b raw_left raw_right) ≡ (if b then left else right)
choice true raw_left raw_right left right is_left is_right = is_left
choice false raw_left raw_right left right is_left is_right = is_right

pub raw_lane : (lanes : List ℤ) (l : ℕ) → l < length lanes → SFits w64 (get_or lanes l (pos 0)) → to_z w64 (get_or (map (of_z w64) lanes) l 0) ≡ get_or lanes l (pos 0)
raw_lane lanes l inside fits = ap (to_z w64) (get_or-map (of_z w64) lanes l (pos 0) 0 inside) ∙ to_z-of_z fits

pub signed_selected : (t : ℕ → ℕ → Bool) (xs ys : List ℕ) (left right : List ℤ) (n l : ℕ) → length xs ≡ n → length ys ≡ n → length left ≡ n → length right ≡ n → l < n
    → SFits w64 (get_or left l (pos 0)) → SFits w64 (get_or right l (pos 0))
    → get_or (map (to_z w64) (sel_l (map (top 63) (zip2 (λ a b. cond (t a b) (2 ^ 64 - 1) 0) xs ys)) (map (of_z w64) left) (map (of_z w64) right))) l (pos 0)
    ≡ (if t (get_or xs l 0) (get_or ys l 0) then get_or left l (pos 0) else get_or right l (pos 0))
signed_selected t xs ys left right n l long_xs long_ys long_left long_right inside fits_left fits_right =
    let raw_left = map (of_z w64) left in
    let raw_right = map (of_z w64) right in
    let ms = map (top 63) (zip2 (λ a b. cond (t a b) (2 ^ 64 - 1) 0) xs ys) in
    let long_l : length raw_left ≡ n = length-map left (of_z w64) ∙ long_left in
    let long_r : length raw_right ≡ n = length-map right (of_z w64) ∙ long_right in
    let long_ms : length ms ≡ n = length-map (zip2 (λ a b. cond (t a b) (2 ^ 64 - 1) 0) xs ys) (top 63) ∙ length-zip2 (λ a b. cond (t a b) (2 ^ 64 - 1) 0) xs ys (long_xs ∙ sym long_ys) ∙ long_xs in
    let long : length (sel_l ms raw_left raw_right) ≡ n = length-sel_l ms raw_left raw_right (omega arith) (omega arith) ∙ long_ms in
    get_or-map (to_z w64) (sel_l ms raw_left raw_right) l 0 (pos 0) (omega arith)
    ∙ ap (to_z w64) (lane_selected t xs ys raw_left raw_right n l long_xs long_ys long_l long_r inside)
    ∙ choice (t (get_or xs l 0) (get_or ys l 0)) (get_or raw_left l 0) (get_or raw_right l 0) (get_or left l (pos 0)) (get_or right l (pos 0))
    (raw_lane left l (omega arith) fits_left) (raw_lane right l (omega arith) fits_right)

pub lane_of_set : (word : ℕ) (bits : List ℕ) (left right : List ℤ) (n l : ℕ) → length bits ≡ n → length left ≡ n → length right ≡ n → l < n → get_or bits l 0 ≡ 2 ^ l
    → SFits w64 (get_or left l (pos 0)) → SFits w64 (get_or right l (pos 0))
    → get_or (map (to_z w64) (sel_l (map (top 63) (zip2 (λ a b. cond (not (a == b)) (2 ^ 64 - 1) 0) (zip2 bit_and (replicate n word) bits) (replicate n 0))) (map (of_z w64) left) (map (of_z w64) right))) l (pos 0)
    ≡ (if is_bit word l then get_or left l (pos 0) else get_or right l (pos 0))
lane_of_set word bits left right n l long_bits long_left long_right inside is fits_left fits_right =
    let splat : length (replicate n word) ≡ n = length-replicate n word in
    let zeros : length (replicate n 0) ≡ n = length-replicate n 0 in
    let own : length (zip2 bit_and (replicate n word) bits) ≡ n = length-zip2 bit_and (replicate n word) bits (omega arith) ∙ splat in
    let bit : get_or (zip2 bit_and (replicate n word) bits) l 0 ≡ bit_and word (2 ^ l) =
    get_or-zip2 bit_and (replicate n word) bits l 0 0 0 (omega arith) (omega arith) ∙ ap (λ w. bit_and w (get_or bits l 0)) (get_or-replicate n l word 0 inside) ∙ ap (bit_and word) is in
    signed_selected (λ a b. not (a == b)) (zip2 bit_and (replicate n word) bits) (replicate n 0) left right n l own zeros long_left long_right inside fits_left fits_right
    ∙ ap (λ b. if b then get_or left l (pos 0) else get_or right l (pos 0))
    (ap (λ z. not (get_or (zip2 bit_and (replicate n word) bits) l 0 == z)) (get_or-replicate n l 0 0 inside) ∙ ap (λ b. not (b == 0)) bit ∙ own_bit word l)

pub lane_of_first : (left right l' r' : List ℤ) (n l : ℕ) → length left ≡ n → length right ≡ n → length l' ≡ n → length r' ≡ n → l < n
    → SFits w64 (get_or left l (pos 0)) → SFits w64 (get_or right l (pos 0)) → SFits w64 (get_or l' l (pos 0)) → SFits w64 (get_or r' l (pos 0))
    → get_or (map (to_z w64) (sel_l (map (top 63) (zip2 (λ a b. cond (int_lt (to_z w64 a) (to_z w64 b)) (2 ^ 64 - 1) 0) (map (of_z w64) l') (map (of_z w64) r'))) (map (of_z w64) left) (map (of_z w64) right))) l (pos 0)
    ≡ (if int_lt (get_or l' l (pos 0)) (get_or r' l (pos 0)) then get_or left l (pos 0) else get_or right l (pos 0))
lane_of_first left right l' r' n l long_left long_right long_l long_r inside fits_left fits_right fits_l fits_r =
    signed_selected (λ a b. int_lt (to_z w64 a) (to_z w64 b)) (map (of_z w64) l') (map (of_z w64) r') left right n l (length-map l' (of_z w64) ∙ long_l) (length-map r' (of_z w64) ∙ long_r) long_left long_right inside fits_left fits_right
    ∙ ap (λ b. if b then get_or left l (pos 0) else get_or right l (pos 0))
    (ap (λ x. int_lt x (to_z w64 (get_or (map (of_z w64) r') l 0))) (raw_lane l' l (omega arith) fits_l) ∙ ap (int_lt (get_or l' l (pos 0))) (raw_lane r' l (omega arith) fits_r))

-- the number of lanes that a comparison selects
pub length-selected : (t : ℕ → ℕ → Bool) (xs ys : List ℕ) (left right : List ℤ) (n : ℕ) → length xs ≡ n → length ys ≡ n → length left ≡ n → length right ≡ n
    → length (map (to_z w64) (sel_l (map (top 63) (zip2 (λ a b. cond (t a b) (2 ^ 64 - 1) 0) xs ys)) (map (of_z w64) left) (map (of_z w64) right))) ≡ n
length-selected t xs ys left right n long_xs long_ys long_left long_right =
    let raw_left = map (of_z w64) left in
    let raw_right = map (of_z w64) right in
    let ms = map (top 63) (zip2 (λ a b. cond (t a b) (2 ^ 64 - 1) 0) xs ys) in
    let long_l : length raw_left ≡ n = length-map left (of_z w64) ∙ long_left in
    let long_r : length raw_right ≡ n = length-map right (of_z w64) ∙ long_right in
    let long_ms : length ms ≡ n = length-map (zip2 (λ a b. cond (t a b) (2 ^ 64 - 1) 0) xs ys) (top 63) ∙ length-zip2 (λ a b. cond (t a b) (2 ^ 64 - 1) 0) xs ys (long_xs ∙ sym long_ys) ∙ long_xs in
    length-map (sel_l ms raw_left raw_right) (to_z w64) ∙ length-sel_l ms raw_left raw_right (omega arith) (omega arith) ∙ long_ms

pub length-where_set : (word : ℕ) (bits : List ℕ) (left right : List ℤ) (n : ℕ) → length bits ≡ n → length left ≡ n → length right ≡ n
    → length (map (to_z w64) (sel_l (map (top 63) (zip2 (λ a b. cond (not (a == b)) (2 ^ 64 - 1) 0) (zip2 bit_and (replicate n word) bits) (replicate n 0))) (map (of_z w64) left) (map (of_z w64) right))) ≡ n
length-where_set word bits left right n long_bits long_left long_right =
    let splat : length (replicate n word) ≡ n = length-replicate n word in
    length-selected (λ a b. not (a == b)) (zip2 bit_and (replicate n word) bits) (replicate n 0) left right n
    (length-zip2 bit_and (replicate n word) bits (omega arith) ∙ splat) (length-replicate n 0) long_left long_right

pub length-first : (left right l' r' : List ℤ) (n : ℕ) → length left ≡ n → length right ≡ n → length l' ≡ n → length r' ≡ n
    → length (map (to_z w64) (sel_l (map (top 63) (zip2 (λ a b. cond (int_lt (to_z w64 a) (to_z w64 b)) (2 ^ 64 - 1) 0) (map (of_z w64) l') (map (of_z w64) r'))) (map (of_z w64) left) (map (of_z w64) right))) ≡ n
length-first left right l' r' n long_left long_right long_l long_r =
    length-selected (λ a b. int_lt (to_z w64 a) (to_z w64 b)) (map (of_z w64) l') (map (of_z w64) r') left right n (length-map l' (of_z w64) ∙ long_l) (length-map r' (of_z w64) ∙ long_r) long_left long_right

-- one of two numbers that fit fits
pub choice_fits : (b : Bool) (x y z : ℤ) → z ≡ (if b then x else y) → SFits w64 x → SFits w64 y → SFits w64 z
choice_fits true x y z is fx fy = subst (SFits w64) (sym is) fx
choice_fits false x y z is fx fy = subst (SFits w64) (sym is) fy

nothing_before_itself : (least : Bool) (v : ℤ) → comes_first least v v ≡ false
nothing_before_itself true v = grind (arith, ints)
nothing_before_itself false v = grind (arith, ints)

-- a lane after one step, by the choices that it is made of
pub next_lane : (least w : Bool) (v o s r : ℤ) → s ≡ (if w then v else o) → r ≡ (if comes_first least s o then s else o)
    → r ≡ (if w && comes_first least v o then v else o)
next_lane least true v o s r picked first =
    first ∙ ap (λ x. if comes_first least x o then x else o) picked
next_lane least false v o s r picked first =
    first ∙ ap (λ x. if comes_first least x o then x else o) picked ∙ ap (λ b. if b then o else o) (nothing_before_itself least o)

-- what is up to a lane after a step is up to what the lane held, and to the value that went by
pub step_held : (least w c : Bool) (bound v o n : ℤ) → comes_first least v o ≡ c → n ≡ (if w && c then v else o) → IsUpTo least bound n → IsUpTo least bound o
step_held true true true bound v o n first is up = let u = subst (IsUpTo true bound) is up in grind (arith, ints)
step_held false true true bound v o n first is up = let u = subst (IsUpTo false bound) is up in grind (arith, ints)
step_held least true false bound v o n first is up = subst (IsUpTo least bound) is up
step_held least false c bound v o n first is up = subst (IsUpTo least bound) is up

pub step_value : (least w c : Bool) (bound v o n : ℤ) → comes_first least v o ≡ c → n ≡ (if w && c then v else o) → IsUpTo least bound n → w ≡ true → IsUpTo least bound v
step_value least true true bound v o n first is up set = subst (IsUpTo least bound) is up
step_value true true false bound v o n first is up set = let u = subst (IsUpTo true bound) is up in grind (arith, ints)
step_value false true false bound v o n first is up set = let u = subst (IsUpTo false bound) is up in grind (arith, ints)
step_value least false c bound v o n first is up set = absurd (cc)

-- a lane holds what it held or the value
pub step_among : (P : ℤ → Type 0) (w c : Bool) (v o n : ℤ) → n ≡ (if w && c then v else o) → P o → (w ≡ true → P v) → P n
step_among P true true v o n is held value = subst P (sym is) (value refl)
step_among P true false v o n is held value = subst P (sym is) held
step_among P false c v o n is held value = subst P (sym is) held

-- the values of two lists one after the other
pub picked_append : {X : Type 0} (mask : List ℕ) → (j : ℕ) (xs ys : List X)
    → picked_from mask j (xs ++ ys) ≡ picked_from mask j xs ++ picked_from mask (j + length xs) ys
picked_append mask j [] ys = ap (λ k. picked_from mask k ys) (let e : j ≡ j + 0 = omega arith in e)
picked_append mask j (x ∷ xs) ys =
    ap (λ vs. if bit_of mask j then x ∷ vs else vs)
    (picked_append mask (j + 1) xs ys
    ∙ ap (λ k. picked_from mask (j + 1) xs ++ picked_from mask k ys) (let e : (j + 1) + length xs ≡ j + suc (length xs) = omega arith in e))
    ∙ before_more (bit_of mask j) x (picked_from mask (j + 1) xs) (picked_from mask (j + suc (length xs)) ys)

pub all_picked : (P : ℤ → Type 0) (mask : List ℕ) (j : ℕ) (xs : List ℤ) → ((k : ℕ) → k < length xs → bit_of mask (j + k) ≡ true → P (get_or xs k (pos 0))) → All P (picked_from mask j xs)
all_picked P mask j [] each = All-nil P
all_picked P mask j (x ∷ xs) each =
    by_bit (bit_of mask j) refl
    (all_picked P mask (j + 1) xs (λ k below set. each (suc k) (omega arith) (ap (bit_of mask) (let e : j + suc k ≡ (j + 1) + k = omega arith in e) ∙ set))) where
      by_bit : (b : Bool) → bit_of mask j ≡ b → All P (picked_from mask (j + 1) xs) → All P (if b then x ∷ picked_from mask (j + 1) xs else picked_from mask (j + 1) xs)
      by_bit true set rest = All-cons P x (picked_from mask (j + 1) xs) (each 0 (omega arith) (ap (bit_of mask) (let e : j + 0 ≡ j = omega arith in e) ∙ set)) rest
      by_bit false set rest = rest

pub contains_picked : (mask : List ℕ) (j : ℕ) (xs : List ℤ) (k : ℕ) → k < length xs → bit_of mask (j + k) ≡ true → Contains (picked_from mask j xs) (get_or xs k (pos 0))
contains_picked mask j [] k below set = absurd (omega arith)
contains_picked mask j (x ∷ xs) zero below set =
    subst (λ b. Contains (if b then x ∷ picked_from mask (j + 1) xs else picked_from mask (j + 1) xs) x)
    (sym (ap (bit_of mask) (let e : j ≡ j + 0 = omega arith in e) ∙ set)) (Contains-append_left (x ∷ []) (picked_from mask (j + 1) xs) x (Contains-push [] x))
contains_picked mask j (x ∷ xs) (suc k) below set =
    behind (bit_of mask j) (contains_picked mask (j + 1) xs k (omega arith) (ap (bit_of mask) (let e : (j + 1) + k ≡ j + suc k = omega arith in e) ∙ set)) where
      behind : (b : Bool) → Contains (picked_from mask (j + 1) xs) (get_or xs k (pos 0)) → Contains (if b then x ∷ picked_from mask (j + 1) xs else picked_from mask (j + 1) xs) (get_or xs k (pos 0))
      behind true there = Contains-append_right (x ∷ []) (picked_from mask (j + 1) xs) (get_or xs k (pos 0)) there
      behind false there = there

-- nothing is picked where no bit is set
pub none_picked : (mask : List ℕ) (j : ℕ) (xs : List ℤ) → ((k : ℕ) → k < length xs → bit_of mask (j + k) ≡ false) → picked_from mask j xs ≡ []
none_picked mask j [] none = refl
none_picked mask j (x ∷ xs) none =
    ap (λ b. if b then x ∷ picked_from mask (j + 1) xs else picked_from mask (j + 1) xs) (ap (bit_of mask) (let e : j ≡ j + 0 = omega arith in e) ∙ none 0 (omega arith))
    ∙ none_picked mask (j + 1) xs (λ k below. ap (bit_of mask) (let e : (j + 1) + k ≡ j + suc k = omega arith in e) ∙ none (suc k) (omega arith))

-- the values of one word more
pub word_bit : (mask : List ℕ) (i l : ℕ) → l < 64 → bit_of mask (64 * i + l) ≡ is_bit (get_or mask i 0) l
word_bit mask i l below =
    ap (λ k. is_bit (get_or mask k 0) ((64 * i + l) % 64)) (let e : (64 * i + l) / 64 ≡ i = omega arith in e)
    ∙ ap (is_bit (get_or mask i 0)) (let e : (64 * i + l) % 64 ≡ l = omega arith in e)

pub word_long : (values part : List ℤ) (i n : ℕ) → n ≡ 64 → 64 * i + 64 ≤ length values → part ≡ take n (drop (64 * i) values) → length part ≡ 64
word_long values part i n is within same =
    ap length same ∙ length-take-le n (drop (64 * i) values) (let e = length-drop (64 * i) values in omega arith) ∙ is

pub word_more : (mask : List ℕ) (values part : List ℤ) (i n next : ℕ) → n ≡ 64 → next ≡ 64 * i + 64 → 64 * i + 64 ≤ length values → part ≡ take n (drop (64 * i) values)
    → picked mask (take next values) ≡ picked mask (take (64 * i) values) ++ picked_from mask (64 * i) part
word_more mask values part i n next is ends within same =
    ap (λ k. picked mask (take k values)) (let e : next ≡ 64 * i + n = omega arith in e)
    ∙ ap (picked mask) (take-add (64 * i) n values ∙ ap (λ vs. take (64 * i) values ++ vs) (sym same))
    ∙ picked_append mask 0 (take (64 * i) values) part
    ∙ ap (λ k. picked mask (take (64 * i) values) ++ picked_from mask k part) (let e : 0 + length (take (64 * i) values) ≡ 64 * i = (let f = length-take-le (64 * i) values (omega arith) in omega arith) in e)

-- what is picked of one word is picked of all
pub word_within : (mask : List ℕ) (values part : List ℤ) (i n l : ℕ) → n ≡ 64 → 64 * i + 64 ≤ length values → part ≡ take n (drop (64 * i) values)
    → l < 64 → is_bit (get_or mask i 0) l ≡ true → Contains (picked mask values) (lane part l)
word_within mask values part i n l is within same below set =
    let long = word_long values part i n is within same in
    let there : lane part l ≡ get_or values (64 * i + l) (pos 0) =
    ap (λ vs. get_or vs l (pos 0)) same ∙ get_or-take n (drop (64 * i) values) l (pos 0) (omega arith) ∙ get_or-drop (64 * i) values l (pos 0) in
    subst (Contains (picked mask values)) (sym there)
    (contains_picked mask 0 values (64 * i + l) (omega arith) (ap (bit_of mask) (let e : 0 + (64 * i + l) ≡ 64 * i + l = omega arith in e) ∙ word_bit mask i l below ∙ set))

pub reach_more : (least : Bool) (mask : List ℕ) (values part lanes after : List ℤ) (i n next : ℕ) → n ≡ 64 → next ≡ 64 * i + 64 → 64 * i + 64 ≤ length values → part ≡ take n (drop (64 * i) values)
    → AreLanes after → AreNext least (get_or mask i 0) part lanes after → Reach least (picked mask values) (picked mask (take (64 * i) values)) lanes
    → Reach least (picked mask values) (picked mask (take next values)) after
reach_more least mask values part lanes after i n next is ends within same fit step so_far = record {
  fit = fit;
  among = λ l below.
      step_among (Contains (picked mask values)) (is_bit word l) (comes_first least (lane part l) (lane lanes l)) (lane part l) (lane lanes l) (lane after l) (step l below)
      (so_far.among l below) (word_within mask values part i n l is within same below);
  first = λ bound up. subst (All (IsUpTo least bound)) (sym (word_more mask values part i n next is ends within same))
      (All-append (IsUpTo least bound) (picked mask (take (64 * i) values)) (picked_from mask (64 * i) part)
      (so_far.first bound (λ l below. step_held least (is_bit word l) (comes_first least (lane part l) (lane lanes l)) bound (lane part l) (lane lanes l) (lane after l) refl (step l below) (up l below)))
      (all_picked (IsUpTo least bound) mask (64 * i) part (λ l inside set.
      let below : l < 64 = (let long = word_long values part i n is within same in omega arith) in
      step_value least (is_bit word l) (comes_first least (lane part l) (lane lanes l)) bound (lane part l) (lane lanes l) (lane after l) refl (step l below) (up l below)
      (sym (word_bit mask i l below) ∙ set))));
} where
  word : ℕ
  word = get_or mask i 0

-- a lane again, behind bits
pub again : (lanes : List ℤ) → AreLanes lanes → map (to_z w64) (map (of_z w64) lanes) ≡ lanes
again lanes fit =
    let long = fit.0 in
    let raw = length-map lanes (of_z w64) in
    let whole = length-map (map (of_z w64) lanes) (to_z w64) in
    ext_get_or (pos 0) (map (to_z w64) (map (of_z w64) lanes)) lanes (whole ∙ raw)
    (λ k below. get_or-map (to_z w64) (map (of_z w64) lanes) k 0 (pos 0) (omega arith) ∙ raw_lane lanes k (omega arith) (fit.1 k (omega arith)))

pub again_fit : (lanes : List ℤ) → AreLanes lanes → AreLanes (map (to_z w64) (map (of_z w64) lanes))
again_fit lanes fit = subst AreLanes (sym (again lanes fit)) fit

-- values of one word as lanes
pub values_fit : (n : ℕ) (values : List ℤ) → n ≡ 64 → length values ≡ n → ((k : ℕ) → k < length values → SFits w64 (get_or values k (pos 0))) → AreLanes values
values_fit n values is long fits = (long ∙ is, λ l below. fits l (omega arith))

pub picked_fit : (word : ℕ) (left right lanes : List ℤ) → AreLanes left → AreLanes right → length lanes ≡ 64 → ArePicked word left right lanes → AreLanes lanes
picked_fit word left right lanes fl fr long picks = (long, λ l below. choice_fits (is_bit word l) (lane left l) (lane right l) (lane lanes l) (picks l below) (fl.1 l below) (fr.1 l below))

pub first_fit : (least : Bool) (left right lanes : List ℤ) → AreLanes left → AreLanes right → length lanes ≡ 64 → AreFirst least left right lanes → AreLanes lanes
first_fit least left right lanes fl fr long picks =
    (long, λ l below. choice_fits (comes_first least (lane left l) (lane right l)) (lane left l) (lane right l) (lane lanes l) (picks l below) (fl.1 l below) (fr.1 l below))

pub next_of : (least : Bool) (word : ℕ) (values lanes chosen after : List ℤ) → ArePicked word values lanes chosen → AreFirst least chosen lanes after → AreNext least word values lanes after
next_of least word values lanes chosen after picks firsts = λ l below.
    next_lane least (is_bit word l) (lane values l) (lane lanes l) (lane chosen l) (lane after l) (picks l below) (firsts l below)

-- lanes that begin with one of the values
pub reach_seed : (least : Bool) (all lanes : List ℤ) (seed : ℤ) → length lanes ≡ 64 → ((l : ℕ) → l < 64 → lane lanes l ≡ seed) → SFits w64 seed → Contains all seed → Reach least all [] lanes
reach_seed least all lanes seed long same fits there = record {
  fit = (long, λ l below. subst (SFits w64) (sym (same l below)) fits);
  among = λ l below. subst (Contains all) (sym (same l below)) there;
  first = λ bound up. All-nil (IsUpTo least bound);
}

pub none_more : (mask : List ℕ) (values : List ℤ) (i next : ℕ) → next ≡ 64 * i + 64 → 64 * i + 64 ≤ length values → get_or mask i 0 ≡ 0
    → picked mask (take (64 * i) values) ≡ [] → picked mask (take next values) ≡ []
none_more mask values i next ends within nothing before_it =
    let part = take 64 (drop (64 * i) values) in
    let long = word_long values part i 64 refl within refl in
    word_more mask values part i 64 next refl ends within refl ∙ ap (λ vs. vs ++ picked_from mask (64 * i) part) before_it
    ∙ none_picked mask (64 * i) part (λ k below. word_bit mask i k (omega arith) ∙ ap (λ w. is_bit w k) nothing ∙ ap (λ b. b == 1) (bit_at-zero k))

-- one value more by a plain loop
pub one_first : (least set c : Bool) (part : List ℤ) (best value taken : ℤ) → comes_first least value best ≡ c → taken ≡ (if set && c then value else best)
    → All (IsUpTo least best) part → All (IsUpTo least taken) (part ++ one_if set value)
one_first least true true part best value taken first is all =
    subst (λ t. All (IsUpTo least t) (part ++ value ∷ [])) (sym is)
    (All-push (IsUpTo least value) part value
    (All-weaker (IsUpTo least best) (IsUpTo least value) (λ other up. up_to_behind least value best other first up) part all) (up_to_self least value))
one_first least true false part best value taken first is all =
    subst (λ t. All (IsUpTo least t) (part ++ value ∷ [])) (sym is) (All-push (IsUpTo least best) part value all (up_to_ahead least value best first))
one_first least false c part best value taken first is all =
    subst (λ t. All (IsUpTo least t) (part ++ [])) (sym is) (subst (All (IsUpTo least best)) (sym (append-nil part)) all)

pub small_power : (l : ℕ) → l < 64 → 1 * 2 ^ l % 2 ^ 64 ≡ 2 ^ l
small_power l below = let small : 2 ^ l ≤ 2 ^ 63 = pow_mono {i = l} {j = 63} (omega arith) in omega arith

-- an item is among the items
pub item_there : (xs : List ℤ) (i : ℕ) → i < length xs → Contains xs (get_or xs i (pos 0))
item_there xs i inside = (i, inside, get_or_default xs i (get_or xs i (pos 0)) (pos 0) inside)

pub picked_there : (mask : List ℕ) (values : List ℤ) (j : ℕ) → j < length values → bit_of mask j ≡ true → Contains (picked mask values) (get_or values j (pos 0))
picked_there mask values j inside set = contains_picked mask 0 values j inside (ap (bit_of mask) (let e : 0 + j ≡ j = omega arith in e) ∙ set)

-- the best of lanes that reach a part, over the part
pub lane_among : (least : Bool) (all part lanes : List ℤ) (best : ℤ) → Reach least all part lanes → IsExtreme least lanes best → Contains all best
lane_among least all part lanes best reach extreme =
    let found = extreme.among in
    let there = found.1 in
    let long = reach.fit.0 in
    subst (Contains all) (get_or_default lanes found.0 (pos 0) best there ∙ found.2) (reach.among found.0 (omega arith))

pub lane_first : (least : Bool) (all part lanes : List ℤ) (best : ℤ) → Reach least all part lanes → IsExtreme least lanes best → All (IsUpTo least best) part
lane_first least all part lanes best reach extreme =
    reach.first best (λ l below. extreme.first l (pos 0) (let long = reach.fit.0 in omega arith))

pub reach_splat : (least : Bool) (all : List ℤ) (seed : ℤ) (n : ℕ) → n ≡ 64 → SFits w64 seed → Contains all seed → Reach least all [] (map (to_z w64) (replicate n (of_z w64 seed)))
reach_splat least all seed n is fits there =
    let raw = length-replicate n (of_z w64 seed) in
    let long = length-map (replicate n (of_z w64 seed)) (to_z w64) in
    reach_seed least all (map (to_z w64) (replicate n (of_z w64 seed))) seed (long ∙ raw ∙ is)
    (λ l below. get_or-map (to_z w64) (replicate n (of_z w64 seed)) l 0 (pos 0) (omega arith) ∙ ap (to_z w64) (get_or-replicate n l (of_z w64 seed) 0 (omega arith)) ∙ to_z-of_z fits)
    fits there
