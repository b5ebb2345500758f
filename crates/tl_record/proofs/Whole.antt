-- Numbers of which all bytes are there are read at once.
use Rattle.std.proofs.Common.{◌≡◌, ℕ, zero, suc, ◌^◌, ◌<◌, ◌≤◌, Bool, true, false, ◌&&◌, nat_le, List, [], ◌∷◌, ◌++◌, length, get_or, take, drop, refl, sym, ap, ◌∙◌, subst, arith, Result, Ok, Err, ℤ, ◌≤ℤ◌, int_le}
use Rattle.std.specs.Int.{w16, w32, w64, from_be_bytes, to_be_bytes, cast_signed}
use Rattle.std.proofs.lemmas.Nat.{be_bytes_2, be_bytes_4, be_bytes_8}
use Rattle.std.proofs.lemmas.Int.{ints, of_z-to_z}
use Rattle.std.proofs.lemmas.List.{length-append, length-take, take-append-drop}
use Rattle.tl_record.specs.declared.faults.Fault.{Fault}
use Rattle.tl_record.specs.declared.faults.Fault.TheVariants.{Short, Bad}
use Rattle.tl_record.specs.Spelling.{short_number, number, signed_number, IsSigned}
use Rattle.tl_record.specs.Reading.{between, mapped, judged, max_4, any_2, any_4, distance, at_distance, turned_between, signed_between, least, greatest, IsBetween}
use Rattle.tl_record.proofs.Exact.{Reads}
use Rattle.tl_record.proofs.Parts.{same_value}
use Rattle.tl_record.proofs.Fields.{bounded_reads, any_2_reads, any_4_reads, signed_reads, IsWithin}
use Rattle.tl_record.proofs.Letters.{both}
use Rattle.tl_record.proofs.Bounds.{inside, between_of}
use Rattle.tl_record.proofs.Steps.{distances_ascend}

module _ {A : Type 0} (read : List ℕ → Result (A × List ℕ) Fault) (s : A → List ℕ) (F : A → Type 0)
    (one : Reads read s F) (x : A) (rest : List ℕ)
    (alone : (y : A) (r : List ℕ) → F y → s x ++ rest ≡ s y ++ r → F x)
    (size : (y : A) → length (s y) ≤ length (s x)) where
  -- a spelled value that does not fit is a fault of the bytes
  refused_if : (r : Result (A × List ℕ) Fault) → read (s x ++ rest) ≡ r → (F x → ⊥) → r ≡ Err Bad
  refused_if (Ok q) is not = let t = one.takes (s x ++ rest) q.1 q.0 is in absurd (not (alone q.0 q.1 t.0 t.1))
  refused_if (Err Bad) is not = refl
  refused_if (Err Short) is not =
      let t = one.short (s x ++ rest) is in
      let a = length-append (s x ++ rest) t.1 in
      let b = length-append (s x) rest in
      let l = size t.0 in
      absurd (t.3 (nothing t.1 (let z : length t.1 ≡ 0 = omega (arith, a, b, l, ap length t.4) in z))) where
        nothing : (more : List ℕ) → length more ≡ 0 → more ≡ []
        nothing [] e = refl
        nothing (m ∷ more) e = absurd (omega (arith, e))

  pub refused : (F x → ⊥) → read (s x ++ rest) ≡ Err Bad
  refused not = refused_if (read (s x ++ rest)) refl not

-- NUMBERS OF TWO BYTES

small_take : (n : ℕ) (bytes : List ℕ) → ((i : ℕ) → get_or bytes i 0 < 256) → (i : ℕ)
    → get_or (take n bytes) i 0 < 256
small_take zero bytes h i = omega arith
small_take (suc n) [] h i = omega arith
small_take (suc n) (b ∷ bytes) h zero = h 0
small_take (suc n) (b ∷ bytes) h (suc i) = small_take n bytes (λ j. h (suc j)) i

abbrev two_of : List ℕ → ℕ
two_of bytes = from_be_bytes w16 (take 2 bytes)

module _ (bytes : List ℕ) (bound : (i : ℕ) → get_or bytes i 0 < 256) (long : 2 ≤ length bytes) where
  two_is : short_number (two_of bytes) ≡ take 2 bytes
  two_is =
      be_bytes_2 (take 2 bytes) (two_of bytes) (omega (arith, length-take 2 bytes, long))
      (small_take 2 bytes bound) refl

  two_whole : bytes ≡ short_number (two_of bytes) ++ drop 2 bytes
  two_whole = sym (take-append-drop 2 bytes) ∙ ap (λ l. l ++ drop 2 bytes) (sym two_is)

  pub two_read : two_of bytes < 2 ^ 16 → between 2 0 65535 bytes ≡ Ok (two_of bytes, drop 2 bytes)
  two_read small = ap any_2 two_whole ∙ any_2_reads.again (two_of bytes) (drop 2 bytes) small

-- fewer bytes are no number
pub two_cut : (bytes rest : List ℕ) (n : ℕ) → length bytes < 2 → between 2 0 65535 bytes ≡ Ok (n, rest) → ⊥
two_cut bytes rest n few e =
    let t = any_2_reads.takes bytes rest n e in
    omega (arith, few, ap length t.1, length-append (short_number n) rest)

-- NUMBERS OF FOUR BYTES

abbrev four_of : List ℕ → ℕ
four_of bytes = from_be_bytes w32 (take 4 bytes)

module _ (bytes : List ℕ) (bound : (i : ℕ) → get_or bytes i 0 < 256) (long : 4 ≤ length bytes) where
  four_is : number (four_of bytes) ≡ take 4 bytes
  four_is =
      be_bytes_4 (take 4 bytes) (four_of bytes) (omega (arith, length-take 4 bytes, long))
      (small_take 4 bytes bound) refl

  four_whole : bytes ≡ number (four_of bytes) ++ drop 4 bytes
  four_whole = sym (take-append-drop 4 bytes) ∙ ap (λ l. l ++ drop 4 bytes) (sym four_is)

  pub four_read : (lo hi : ℕ) → lo ≤ hi → hi ≤ max_4 → four_of bytes < 2 ^ 32
      → between 4 lo hi bytes
      ≡ judged (nat_le lo (four_of bytes) && nat_le (four_of bytes) hi) (four_of bytes) (drop 4 bytes)
  four_read lo hi some most small = by_test (nat_le lo n && nat_le n hi) refl where
    n : ℕ
    n = four_of bytes

    by_test : (t : Bool) → (nat_le lo n && nat_le n hi) ≡ t → between 4 lo hi bytes ≡ judged t n (drop 4 bytes)
    by_test true e =
        ap (between 4 lo hi) four_whole
        ∙ (bounded_reads lo hi some most).again n (drop 4 bytes) (between_of lo hi some n e)
    by_test false e =
        ap (between 4 lo hi) four_whole
        ∙ refused (between 4 lo hi) number (IsBetween lo hi) (bounded_reads lo hi some most) n (drop 4 bytes)
        (λ y r f same.
        let h = f.1 in
        let p = same_value {X = ℕ × List ℕ} (n, drop 4 bytes) (y, r)
        (sym (any_4_reads.again n (drop 4 bytes) small)
        ∙ (ap any_4 same ∙ any_4_reads.again y r (omega (arith, h, most)))) in
        subst (IsBetween lo hi) (sym (ap (λ z. z.0) p)) f)
        (λ y. omega arith)
        (λ f. let g = inside lo hi some n f in absurd (cc))

pub four_cut : (lo hi : ℕ) (bytes rest : List ℕ) (n : ℕ) → lo ≤ hi → hi ≤ max_4
    → length bytes < 4 → between 4 lo hi bytes ≡ Ok (n, rest) → ⊥
four_cut lo hi bytes rest n some most few e =
    let t = (bounded_reads lo hi some most).takes bytes rest n e in
    omega (arith, few, ap length t.1, length-append (number n) rest)

-- SIGNED NUMBERS

abbrev eight_of : List ℕ → ℤ
eight_of bytes = cast_signed w64 (from_be_bytes w64 (take 8 bytes))

module _ (bytes : List ℕ) (bound : (i : ℕ) → get_or bytes i 0 < 256) (long : 8 ≤ length bytes) where
  eight_number : to_be_bytes w64 (from_be_bytes w64 (take 8 bytes)) ≡ take 8 bytes
  eight_number =
      be_bytes_8 (take 8 bytes) (from_be_bytes w64 (take 8 bytes)) (omega (arith, length-take 8 bytes, long))
      (small_take 8 bytes bound) refl

  eight_whole : from_be_bytes w64 (take 8 bytes) < 2 ^ 64
      → bytes ≡ signed_number (eight_of bytes) ++ drop 8 bytes
  eight_whole small =
      sym (take-append-drop 8 bytes)
      ∙ ap (λ l. l ++ drop 8 bytes)
      (sym (ap (to_be_bytes w64) (of_z-to_z w64 (from_be_bytes w64 (take 8 bytes)) small) ∙ eight_number))

  pub eight_read : (lo hi : ℤ) → lo ≤ℤ hi → IsSigned lo → IsSigned hi → IsSigned (eight_of bytes)
      → from_be_bytes w64 (take 8 bytes) < 2 ^ 64
      → signed_between lo hi bytes
      ≡ judged (int_le lo (eight_of bytes) && int_le (eight_of bytes) hi) (eight_of bytes) (drop 8 bytes)
  eight_read lo hi some low high fits small = by_test (int_le lo i && int_le i hi) refl where
    i : ℤ
    i = eight_of bytes

    law : Reads (signed_between lo hi) signed_number (IsWithin lo hi)
    law = signed_reads lo hi some low high

    by_test : (t : Bool) → (int_le lo i && int_le i hi) ≡ t
        → signed_between lo hi bytes ≡ judged t i (drop 8 bytes)
    by_test true e =
        let b = both (int_le lo i) (int_le i hi) e in
        let x = b.0 in
        let y = b.1 in
        ap (signed_between lo hi) (eight_whole small)
        ∙ law.again i (drop 8 bytes) (omega (arith, ints, x), omega (arith, ints, y))
    by_test false e =
        ap (signed_between lo hi) (eight_whole small)
        ∙ refused (signed_between lo hi) signed_number (IsWithin lo hi) law i (drop 8 bytes)
        (λ y r f same.
        let whole = signed_reads least greatest (omega (arith, ints)) (omega (arith, ints), omega (arith, ints))
        (omega (arith, ints), omega (arith, ints)) in
        let a = f.0 in
        let b = f.1 in
        let c = low.0 in
        let d = high.1 in
        let p = same_value {X = ℤ × List ℕ} (i, drop 8 bytes) (y, r)
        (sym (whole.again i (drop 8 bytes) fits)
        ∙ (ap (signed_between least greatest) same
        ∙ whole.again y r (omega (arith, ints, a, c), omega (arith, ints, b, d)))) in
        subst (IsWithin lo hi) (sym (ap (λ z. z.0) p)) f)
        (λ y. omega arith)
        (λ f.
        let a = f.0 in
        let b = f.1 in
        let x : int_le lo i ≡ true = grind (arith, ints) in
        let y : int_le i hi ≡ true = grind (arith, ints) in
        let z : (int_le lo i && int_le i hi) ≡ true = rw (x, y) refl in
        absurd (cc))

pub eight_cut : (lo hi : ℤ) (bytes rest : List ℕ) (d : ℕ) → lo ≤ℤ hi → IsSigned lo → IsSigned hi
    → length bytes < 8 → turned_between (distance lo) (distance hi) bytes ≡ Ok (d, rest) → ⊥
unfolding signed_between
eight_cut lo hi bytes rest d some low high few e =
    let t = (signed_reads lo hi some low high).takes bytes rest (at_distance d) (ap (mapped at_distance) e) in
    omega (arith, few, ap length t.1, length-append (signed_number (at_distance d)) rest)

-- why no signed number is read from fewer than eight bytes
pub ruleset cut = (eight_cut, distances_ascend)
