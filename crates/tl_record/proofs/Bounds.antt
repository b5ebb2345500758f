-- Numbers between bounds are read exactly.
use Rattle.std.proofs.Common.{◌≡◌, ◌≢◌, ℕ, zero, suc, ◌+◌, ◌-◌, ◌*◌, ◌/◌, ◌%◌, ◌<◌, ◌≤◌, min, Bool, true, false, ◌&&◌, nat_le, nat_lt, List, [], ◌∷◌, ◌++◌, refl, sym, ap, ◌∙◌, subst, arith, Ok, Err, div-add-mod', mod-lt, mul-le-mul_right, get_or, drop, div-mul-le_self, if◌then◌else◌}
use Rattle.std.proofs.Math.Nat.{lt-div-mul-add}
use Rattle.std.proofs.lemmas.Nat.{div-mul-add, mod-mul-add}
use native.Mathlib.Nat.{lt_of_not-le}
use native.Mathlib.Decide.{dec_le}
use mathlib.Core.Logic.{dite}
use Rattle.std.proofs.lemmas.Bool.Decides.{nat_tests}
use Rattle.tl_record.specs.declared.faults.Fault.TheVariants.{Short, Bad}
use Rattle.tl_record.specs.Reading.{Reader, in_turn, judged, byte_between, turned, turned_byte, mapped, weight, joined, between, turned_between, IsBetween}
use Rattle.tl_record.proofs.Exact.{Reads, SpellsIn, FitsIn, one, spelled}
use Rattle.tl_record.proofs.Turns.{turns}
use Rattle.tl_record.proofs.Parts.{okay, same_value, maps}

-- ONE BYTE

module _ (lo hi : ℕ) (some : lo ≤ hi) where
  pub inside : (x : ℕ) → IsBetween lo hi x → (nat_le lo x && nat_le x hi) ≡ true
  inside x fits =
      let a : nat_le lo x ≡ true = grind (arith, nat_tests) in
      let b : nat_le x hi ≡ true = grind (arith, nat_tests) in
      rw (a, b) refl

  pub between_of : (b : ℕ) → (nat_le lo b && nat_le b hi) ≡ true → IsBetween lo hi b
  between_of b t = grind (arith, nat_tests)

  byte_takes : (bytes rest : List ℕ) (x : ℕ) → byte_between lo hi bytes ≡ Ok (x, rest)
      → IsBetween lo hi x × (bytes ≡ (x ∷ []) ++ rest)
  byte_takes [] rest x e = absurd (cc)
  byte_takes (b ∷ bytes) rest x e = by_test (nat_le lo b && nat_le b hi) refl e where
    by_test : (t : Bool) → (nat_le lo b && nat_le b hi) ≡ t → judged t b bytes ≡ Ok (x, rest)
        → IsBetween lo hi x × (b ∷ bytes ≡ x ∷ rest)
    by_test true t e' =
        let p : (b, bytes) ≡ (x, rest) = same_value (b, bytes) (x, rest) e' in
        (subst (IsBetween lo hi) (ap (λ z. z.0) p) (between_of b t), ap (λ z. z.0 ∷ z.1) p)
    by_test false t e' = absurd (cc)

  byte_short : (bytes : List ℕ) → byte_between lo hi bytes ≡ Err Short
      → (x : ℕ) × (more : List ℕ) × IsBetween lo hi x × (more ≢ []) × (bytes ++ more ≡ x ∷ [])
  byte_short [] e = (lo, lo ∷ [], (omega arith, some), (λ f. absurd (cc)), refl)
  byte_short (b ∷ bytes) e = by_test (nat_le lo b && nat_le b hi) e where
    by_test : (t : Bool) → judged t b bytes ≡ Err Short
        → (x : ℕ) × (more : List ℕ) × IsBetween lo hi x × (more ≢ []) × ((b ∷ bytes) ++ more ≡ x ∷ [])
    by_test true e' = absurd (cc)
    by_test false e' = absurd (cc)

  byte_bad : (bytes : List ℕ) → byte_between lo hi bytes ≡ Err Bad
      → (x : ℕ) (more rest : List ℕ) → IsBetween lo hi x → bytes ++ more ≢ (x ∷ []) ++ rest
  byte_bad [] e x more rest fits same = absurd (cc)
  byte_bad (b ∷ bytes) e x more rest fits same =
      let is : b ≡ x = ap (λ l. get_or l 0 0) same in
      let t : (nat_le lo b && nat_le b hi) ≡ true =
      subst (λ z. (nat_le lo z && nat_le z hi) ≡ true) (sym is) (inside x fits) in
      absurd (let f : judged true b bytes ≡ Err Bad = ap (λ z. judged z b bytes) (sym t) ∙ e in cc)

  pub byte_reads : Reads (byte_between lo hi) one (IsBetween lo hi)
  byte_reads = record {
    again = λ x rest fits. ap (λ t. judged t x rest) (inside x fits);
    takes = byte_takes;
    short = byte_short;
    bad = byte_bad;
  }

-- ITS HIGHEST BIT TURNED

-- the byte that is spelled for a value
abbrev pub turned_one : ℕ → List ℕ
turned_one b = turned b ∷ []

twice : (b : ℕ) → b < 256 → turned (turned b) ≡ b
twice b small = by_half (nat_lt b 128) refl where
  by_half : (t : Bool) → nat_lt b 128 ≡ t → turned (turned b) ≡ b
  by_half true t =
      let l : b < 128 = grind (arith, nat_tests) in
      let u : nat_lt (b + 128) 128 ≡ false = grind (arith, nat_tests) in
      let v : b + 128 - 128 ≡ b = omega arith in
      rw (t, u, v) refl
  by_half false t =
      let l : 128 ≤ b = grind (arith, nat_tests) in
      let u : nat_lt (b - 128) 128 ≡ true = grind (arith, nat_tests) in
      let v : b - 128 + 128 ≡ b = omega (arith, l) in
      rw (t, u, v) refl

stays_small : (b : ℕ) → b < 256 → turned b < 256
stays_small b small = by_half (nat_lt b 128) refl where
  by_half : (t : Bool) → nat_lt b 128 ≡ t → turned b < 256
  by_half true t = let l : b < 128 = grind (arith, nat_tests) in rw t (omega (arith, l))
  by_half false t = rw t (omega (arith, small))

module _ (lo hi : ℕ) (some : lo ≤ hi) (few : hi < 256) where
  is_byte : (x : ℕ) → IsBetween lo hi x → x < 256
  is_byte x fits = let u = fits.1 in omega (arith, u, few)

  turned_again : (x : ℕ) (rest : List ℕ) → IsBetween lo hi x
      → turned_byte lo hi (turned x ∷ rest) ≡ Ok (x, rest)
  turned_again x rest fits =
      let w : nat_lt (turned x) 256 ≡ true = let l = stays_small x (is_byte x fits) in grind (arith, nat_tests) in
      rw (w, twice x (is_byte x fits)) ((byte_reads lo hi some).again x rest fits)

  turned_takes : (bytes rest : List ℕ) (x : ℕ) → turned_byte lo hi bytes ≡ Ok (x, rest)
      → IsBetween lo hi x × (bytes ≡ turned_one x ++ rest)
  turned_takes [] rest x e = absurd (cc)
  turned_takes (b ∷ bytes) rest x e = by_size (nat_lt b 256) refl e where
    by_size : (t : Bool) → nat_lt b 256 ≡ t
        → (if t then byte_between lo hi (turned b ∷ bytes) else Err Bad) ≡ Ok (x, rest)
        → IsBetween lo hi x × (b ∷ bytes ≡ turned x ∷ rest)
    by_size false t e' = absurd (cc)
    by_size true t e' =
        let small : b < 256 = grind (arith, nat_tests) in
        let u = (byte_reads lo hi some).takes (turned b ∷ bytes) rest x e' in
        let first : turned b ≡ x = ap (λ l. get_or l 0 0) u.1 in
        let others : bytes ≡ rest = ap (drop 1) u.1 in
        let back : b ≡ turned x = sym (twice b small) ∙ ap turned first in
        (u.0, rw (back, others) refl)

  turned_short : (bytes : List ℕ) → turned_byte lo hi bytes ≡ Err Short
      → (x : ℕ) × (more : List ℕ) × IsBetween lo hi x × (more ≢ []) × (bytes ++ more ≡ turned_one x)
  turned_short [] e = (lo, turned lo ∷ [], (omega arith, some), (λ f. absurd (cc)), refl)
  turned_short (b ∷ bytes) e = absurd (by_size (nat_lt b 256) e) where
    never : (t : Bool) → judged t (turned b) bytes ≡ Err Short → ⊥
    never true e' = absurd (cc)
    never false e' = absurd (cc)

    by_size : (t : Bool) → (if t then byte_between lo hi (turned b ∷ bytes) else Err Bad) ≡ Err Short → ⊥
    by_size true e' = never (nat_le lo (turned b) && nat_le (turned b) hi) e'
    by_size false e' = absurd (cc)

  turned_bad : (bytes : List ℕ) → turned_byte lo hi bytes ≡ Err Bad
      → (x : ℕ) (more rest : List ℕ) → IsBetween lo hi x → bytes ++ more ≢ turned_one x ++ rest
  turned_bad [] e x more rest fits same = absurd (cc)
  turned_bad (b ∷ bytes) e x more rest fits same =
      let is : b ≡ turned x = ap (λ l. get_or l 0 0) same in
      let others : bytes ++ more ≡ rest = ap (drop 1) same in
      let w : nat_lt b 256 ≡ true = let l = stays_small x (is_byte x fits) in rw is (grind (arith, nat_tests)) in
      let first : turned b ≡ x = ap turned is ∙ twice x (is_byte x fits) in
      let f : byte_between lo hi (turned b ∷ bytes) ≡ Err Bad =
      subst (λ t. (if t then byte_between lo hi (turned b ∷ bytes) else Err Bad) ≡ Err Bad) w e in
      (byte_reads lo hi some).bad (turned b ∷ bytes) f x more rest fits (rw (first, others) refl)

  pub turned_reads : Reads (turned_byte lo hi) turned_one (IsBetween lo hi)
  turned_reads = record {
    again = turned_again;
    takes = turned_takes;
    short = turned_short;
    bad = turned_bad;
  }

-- A FIRST BYTE AND THE REST

pub weight_pos : (n : ℕ) → 0 < weight n
weight_pos zero = omega arith
weight_pos (suc n) = omega (arith, weight_pos n)

-- the bounds behind a first byte
module _ (w lo hi b : ℕ) (pos : 0 < w) (some : lo ≤ hi) (first : IsBetween (lo / w) (hi / w) b) where
  lower : lo < b * w + w
  lower =
      let q = mul-le-mul_right w first.0 in
      let d = lt-div-mul-add {a = lo} {b = w} pos in
      omega (arith, q, d)

  pub upper : b * w ≤ hi
  upper =
      let q = mul-le-mul_right w first.1 in
      let d = div-mul-le_self hi w in
      omega (arith, q, d)

  pub narrow : lo - b * w ≤ min (hi - b * w) (w - 1)
  narrow = omega (arith, lower, upper, pos, some)

  pub narrow_small : min (hi - b * w) (w - 1) < w
  narrow_small = omega (arith, pos)

  pub back : (r : ℕ) → IsBetween (lo - b * w) (min (hi - b * w) (w - 1)) r
      → IsBetween lo hi (b * w + r) × (r < w)
  back r fits =
      let p = fits.0 in
      let q = fits.1 in
      ((omega (arith, p, q, upper), omega (arith, p, q, upper)), omega (arith, q, pos))

-- if a / w were greater, a would be greater by w
pub div_mono : (a b w : ℕ) → 0 < w → a ≤ b → a / w ≤ b / w
div_mono a b w pos le = dite (dec_le (a / w) (b / w)) (λ h. h) (λ h.
    let g : b / w + 1 ≤ a / w = omega (arith, lt_of_not-le h) in
    let m : (b / w + 1) * w ≤ a / w * w = mul-le-mul_right w g in
    let d = lt-div-mul-add {a = b} {b = w} pos in
    let e = div-mul-le_self a w in
    absurd (
    let x : ℕ = b / w * w in
    let m' : x + w ≤ a / w * w = omega (arith, m) in
    omega (arith, m', d, e, le)))

module _ (w lo hi v : ℕ) (pos : 0 < w) (fits : IsBetween lo hi v) where
  quotient : IsBetween (lo / w) (hi / w) (v / w)
  quotient = (div_mono lo v w pos fits.0, div_mono v hi w pos fits.1)

  rest_of : IsBetween (lo - v / w * w) (min (hi - v / w * w) (w - 1)) (v % w)
  rest_of =
      let d = div-add-mod' v w in
      let m = mod-lt v pos in
      let a = fits.0 in
      let b = fits.1 in
      (omega (arith, d, a), omega (arith, d, b, m))

-- the reader of what follows a first byte b of a number of n bytes more
abbrev pub tail_reader : ℕ → ℕ → ℕ → ℕ → Reader ℕ
tail_reader n lo hi b = between n (lo - b * weight n) (min (hi - b * weight n) (weight n - 1))

abbrev pub TailFits : ℕ → ℕ → ℕ → ℕ → ℕ → Type 0
TailFits n lo hi b r = IsBetween (lo - b * weight n) (min (hi - b * weight n) (weight n - 1)) r

-- however the first byte is spelled
pub joined_reads : (n lo hi : ℕ) (first : Reader ℕ) (s : ℕ → List ℕ) → lo ≤ hi
    → Reads first s (IsBetween (lo / weight n) (hi / weight n))
    → ((b : ℕ) → IsBetween (lo / weight n) (hi / weight n) b
    → Reads (tail_reader n lo hi b) (spelled n) (TailFits n lo hi b))
    → Reads (λ bytes. mapped (joined n) (in_turn first (tail_reader n lo hi) bytes))
    (λ v. s (v / weight n) ++ spelled n (v % weight n)) (IsBetween lo hi)
joined_reads n lo hi first s some one_ tails =
    maps (in_turn first (tail_reader n lo hi)) (joined n) (λ v. (v / weight n, v % weight n))
    (SpellsIn s (λ b. spelled n)) (λ v. s (v / weight n) ++ spelled n (v % weight n))
    (FitsIn (IsBetween (lo / weight n) (hi / weight n)) (TailFits n lo hi)) (IsBetween lo hi)
    (turns first (tail_reader n lo hi) s (λ b. spelled n) (IsBetween (lo / weight n) (hi / weight n))
    (TailFits n lo hi) one_ tails
    (λ b h. (lo - b * weight n, (omega arith, narrow (weight n) lo hi b (weight_pos n) some h))))
    (λ p fits.
    let k = back (weight n) lo hi p.0 (weight_pos n) some fits.0 p.1 fits.1 in
    (k.0, λ i. s (div-mul-add p.0 (weight n) p.1 k.1 i) ++ spelled n (mod-mul-add p.0 (weight n) p.1 k.1 i)))
    (λ v fits. (
      (quotient (weight n) lo hi v (weight_pos n) fits, rest_of (weight n) lo hi v (weight_pos n) fits),
      div-add-mod' v (weight n),
    ))

pub number_reads : (n lo hi : ℕ) → lo ≤ hi → hi < weight n
    → Reads (between n lo hi) (spelled n) (IsBetween lo hi)
unfolding between
number_reads zero lo hi some small = record {
  again = λ x rest fits.
      let a = fits.1 in
      ap (λ z. okay (z, rest)) (let e : 0 ≡ x = omega (arith, a, small) in e);
  takes = λ bytes rest x e.
      let p = same_value (0, bytes) (x, rest) e in
      (subst (IsBetween lo hi) (ap (λ z. z.0) p) (omega (arith, some, small), omega arith), ap (λ z. z.1) p);
  short = λ bytes e. absurd (cc);
  bad = λ bytes e x more rest fits. absurd (cc);
}
number_reads (suc n) lo hi some small =
    joined_reads n lo hi (byte_between (lo / weight n) (hi / weight n)) one some
    (byte_reads (lo / weight n) (hi / weight n) (div_mono lo hi (weight n) (weight_pos n) some))
    (λ b first.
    number_reads n (lo - b * weight n) (min (hi - b * weight n) (weight n - 1))
    (narrow (weight n) lo hi b (weight_pos n) some first)
    (narrow_small (weight n) lo hi b (weight_pos n) some first))

-- SIGNED NUMBERS, AS DISTANCES

pub div_small : (hi n : ℕ) → hi < weight n * 256 → hi / weight n < 256
div_small hi n small = dite (dec_le 256 (hi / weight n)) (λ h.
    let m : 256 * weight n ≤ hi / weight n * weight n = mul-le-mul_right (weight n) h in
    let e = div-mul-le_self hi (weight n) in
    absurd (omega (arith, m, e, small))) (λ h. lt_of_not-le h)

-- the bytes of a distance
abbrev pub turned_bytes : ℕ → List ℕ
turned_bytes v = turned (v / weight 7) ∷ spelled 7 (v % weight 7)

pub distance_reads : (lo hi : ℕ) → lo ≤ hi → hi < weight 8
    → Reads (turned_between lo hi) turned_bytes (IsBetween lo hi)
unfolding turned_between
distance_reads lo hi some small =
    joined_reads 7 lo hi (turned_byte (lo / weight 7) (hi / weight 7)) turned_one some
    (turned_reads (lo / weight 7) (hi / weight 7) (div_mono lo hi (weight 7) (weight_pos 7) some)
    (div_small hi 7 small))
    (λ b first.
    number_reads 7 (lo - b * weight 7) (min (hi - b * weight 7) (weight 7 - 1))
    (narrow (weight 7) lo hi b (weight_pos 7) some first)
    (narrow_small (weight 7) lo hi b (weight_pos 7) some first))
