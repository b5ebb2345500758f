-- How many bits are set in the words of whole vectors, by lanes.
use Rattle.std.proofs.Common.{◌≡◌, ℕ, ◌+◌, ◌*◌, ◌^◌, ◌≤◌, ◌<◌, List, [], ◌∷◌, length, take, map, get_or, refl, sym, ◌∙◌, ap, arith, w64, Fits}
use Rattle.std.specs.Prelude.{sum_by, count_ones}
use Rattle.std.proofs.lemmas.List.{length-map}
use Rattle.std.proofs.lemmas.List.Sums.{sum_by-append, sum_by-cons}
use Rattle.std.proofs.lemmas.Nat.{ones-le}
use Rattle.std.proofs.lemmas.Simd.{sum-zip2, length-zip2, length-chunk, chunk-fits, adds_fit, Each1-from_get_or}
use Rattle.std.proofs.Math.Seq.{take-add}
use lib.Lanes.{sum_l, zip2, chunk, Each1, Each2}

-- how many bits each lane has set
abbrev pub lane_ones : List ℕ → List ℕ
lane_ones xs = map (λ x. x) (map count_ones xs)

pub length-lane_ones : (xs : List ℕ) → length (lane_ones xs) ≡ length xs
length-lane_ones xs = length-map (map count_ones xs) (λ x. x) ∙ length-map xs count_ones

pub sum-lane_ones : (xs : List ℕ) → sum_l (lane_ones xs) ≡ sum_by count_ones xs
sum-lane_ones [] = refl
sum-lane_ones (x ∷ xs) = ap (λ s. count_ones x + s) (sum-lane_ones xs) ∙ sym (sum_by-cons count_ones x xs)

pub lane_ones-le : (xs : List ℕ) → Each1 (Fits w64) xs → sum_l (lane_ones xs) ≤ 64 * length xs
lane_ones-le [] fits = omega arith
lane_ones-le (x ∷ xs) fits =
    let one : count_ones x ≤ 64 = ones-le 64 x fits.0.fits in
    let more = lane_ones-le xs fits.1 in
    omega arith

-- the lanes have counted the words up to `at`
pub record Counted (words counts : List ℕ) (n at : ℕ) : Type 0 where
  pub long : length counts ≡ n
  pub sum : sum_l counts ≡ sum_by count_ones (take at words)
  pub few : sum_l counts ≤ 64 * at

pub counted_fit : (words counts : List ℕ) (n at : ℕ) → at + n ≤ length words → length words < 2 ^ 32 → ((k : ℕ) → Fits w64 (get_or words k 0)) → Counted words counts n at
    → Each2 (λ a b. Fits w64 (a + b)) counts (lane_ones (chunk at n words))
counted_fit words counts n at within small fits so_far =
    let few = so_far.few in
    let long = length-chunk at n words within in
    let more = lane_ones-le (chunk at n words) (chunk-fits w64 at n words fits) in
    adds_fit w64 counts (lane_ones (chunk at n words)) (omega arith)

pub counted_more : (words counts : List ℕ) (n at next : ℕ) → next ≡ at + n → at + n ≤ length words → ((k : ℕ) → Fits w64 (get_or words k 0)) → Counted words counts n at
    → Counted words (zip2 (λ a b. a + b) counts (lane_ones (chunk at n words))) n next
counted_more words counts n at next is within fits so_far =
    let ones = lane_ones (chunk at n words) in
    let long = so_far.long in
    let few = so_far.few in
    let chunked = length-chunk at n words within in
    let counted : length ones ≡ n = length-lane_ones (chunk at n words) ∙ chunked in
    let both = sum-zip2 counts ones (long ∙ sym counted) in
    let more = lane_ones-le (chunk at n words) (chunk-fits w64 at n words fits) in record {
      long = length-zip2 (λ a b. a + b) counts ones (long ∙ sym counted) ∙ long;
      sum = both ∙ ap (λ s. s + sum_l ones) so_far.sum ∙ ap (λ s. sum_by count_ones (take at words) + s) (sum-lane_ones (chunk at n words))
          ∙ sym (sum_by-append count_ones (take at words) (chunk at n words)) ∙ ap (sum_by count_ones) (sym (take-add at n words)) ∙ ap (λ k. sum_by count_ones (take k words)) (sym is);
      few = omega arith;
    }

pub ones_sum-le : (words : List ℕ) → ((k : ℕ) → Fits w64 (get_or words k 0)) → sum_by count_ones words ≤ 64 * length words
ones_sum-le words fits =
    let all = lane_ones-le words (Each1-from_get_or (Fits w64) words 0 (λ k _. fits k)) in
    let same = sum-lane_ones words in
    omega arith
