-- Steps of the readers of numbers, over plain variables.
use Rattle.std.proofs.Common.{◌≡◌, ℕ, zero, suc, ◌+◌, ◌-◌, ◌*◌, ◌/◌, ◌<◌, ◌≤◌, min, ℤ, pos, negsuc, ◌≤ℤ◌, List, Ok, Bool, true, false, refl, arith, nat_lt}
use Rattle.std.proofs.lemmas.Bool.Decides.{nat_tests}
use Rattle.std.proofs.lemmas.Int.{ints}
use Rattle.tl_record.specs.Reading.{in_turn, byte_between, mapped, weight, joined, between, distance, at_distance, IsBetween}
use Rattle.tl_record.proofs.Bounds.{upper, narrow, back, div_small, tail_reader}

pub between_none : (n lo hi : ℕ) (bytes : List ℕ) → n ≡ 0 → between n lo hi bytes ≡ Ok (0, bytes)
unfolding between
between_none zero lo hi bytes e = refl
between_none (suc n) lo hi bytes e = absurd (omega (arith, e))

pub between_some : (n lo hi : ℕ) (bytes : List ℕ) → 0 < n
    → between n lo hi bytes
    ≡ mapped (joined (n - 1))
    (in_turn (byte_between (lo / weight (n - 1)) (hi / weight (n - 1))) (tail_reader (n - 1) lo hi) bytes)
unfolding between
between_some zero lo hi bytes h = absurd (omega (arith, h))
between_some (suc n) lo hi bytes h = let e : suc n - 1 ≡ n = omega arith in rw e refl

pub first_small : (n hi : ℕ) → 0 < n → hi < weight n → hi / weight (n - 1) < 256
first_small zero hi h small = absurd (omega (arith, h))
first_small (suc n) hi h small = let e : suc n - 1 ≡ n = omega arith in rw e (div_small hi n small)

pub front_le : (w lo hi b : ℕ) → 0 < w → lo ≤ hi → IsBetween (lo / w) (hi / w) b → b * w ≤ hi
front_le w lo hi b p some first = upper w lo hi b p some first

pub still_some : (w lo hi b : ℕ) → 0 < w → lo ≤ hi → IsBetween (lo / w) (hi / w) b
    → lo - b * w ≤ min (hi - b * w) (w - 1)
still_some w lo hi b p some first = narrow w lo hi b p some first

pub still_small : (w lo hi b : ℕ) → 0 < w → min (hi - b * w) (w - 1) < w
still_small w lo hi b p = omega (arith, p)

pub joined_within : (w lo hi b r : ℕ) → 0 < w → lo ≤ hi → IsBetween (lo / w) (hi / w) b
    → IsBetween (lo - b * w) (min (hi - b * w) (w - 1)) r → IsBetween lo hi (b * w + r)
joined_within w lo hi b r p some first rest = (back w lo hi b p some first r rest).0

pub distances_ascend : (lo hi : ℤ) → lo ≤ℤ hi → distance lo ≤ distance hi
distances_ascend (pos a) (pos b) h = omega (arith, ints, h)
distances_ascend (pos a) (negsuc b) h = absurd (omega (arith, ints, h))
distances_ascend (negsuc a) (pos b) h = omega arith
distances_ascend (negsuc a) (negsuc b) h = omega (arith, ints, h)

pub signed_within : (lo hi : ℤ) (d : ℕ) → negsuc 9223372036854775807 ≤ℤ hi
    → IsBetween (distance lo) (distance hi) d → (lo ≤ℤ at_distance d) × (at_distance d ≤ℤ hi)
signed_within lo hi d fits inside = by_half (nat_lt d 9223372036854775808) refl where
  above : (lo : ℤ) → distance lo ≤ d → 9223372036854775808 ≤ d → lo ≤ℤ pos (d - 9223372036854775808)
  above (pos a) h big = omega (arith, ints, h, big)
  above (negsuc a) h big = omega (arith, ints)

  above_low : (lo : ℤ) → distance lo ≤ d → d < 9223372036854775808 → lo ≤ℤ negsuc (9223372036854775807 - d)
  above_low (pos a) h small = absurd (omega (arith, ints, h, small))
  above_low (negsuc a) h small = omega (arith, ints, h, small)

  below : (hi : ℤ) → d ≤ distance hi → 9223372036854775808 ≤ d → pos (d - 9223372036854775808) ≤ℤ hi
  below (pos b) h big = omega (arith, ints, h, big)
  below (negsuc b) h big = absurd (omega (arith, ints, h, big))

  below_low : (hi : ℤ) → negsuc 9223372036854775807 ≤ℤ hi → d ≤ distance hi → d < 9223372036854775808
      → negsuc (9223372036854775807 - d) ≤ℤ hi
  below_low (pos b) f h small = omega (arith, ints)
  below_low (negsuc b) f h small = omega (arith, ints, f, h, small)

  by_half : (t : Bool) → nat_lt d 9223372036854775808 ≡ t → (lo ≤ℤ at_distance d) × (at_distance d ≤ℤ hi)
  by_half true t =
      let small : d < 9223372036854775808 = grind (arith, nat_tests) in
      rw t (above_low lo inside.0 small, below_low hi fits inside.1 small)
  by_half false t =
      let big : 9223372036854775808 ≤ d = grind (arith, nat_tests) in
      rw t (above lo inside.0 big, below hi inside.1 big)

-- one byte of a number, and those behind it
pub ruleset step = (first_small, front_le, still_some, still_small, joined_within)

-- the same, where there may be no byte
pub ruleset all = (between_none, between_some, first_small, front_le, still_some, still_small, joined_within)
