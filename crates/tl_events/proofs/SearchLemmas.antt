-- Halving a stretch takes one binary digit, and the end of a version by the entries up to it.
use Rattle.std.proofs.Common.{◌≡◌, ℕ, zero, suc, ◌+◌, ◌/◌, ◌^◌, ◌≤◌, ◌<◌, List, [], ◌∷◌, length, get_or, take, drop, refl, sym, ◌∙◌, ap, subst, arith}
use Rattle.std.specs.Int.Digits.{digits_of}
use Rattle.std.proofs.lemmas.Int.Digits.{length-digits_of_step, length-digits_of-le, number_lt, number_digits_of, all_below_base_digits_of}
use Rattle.std.specs.Prelude.{◌⊎◌, Some, slice_get, fold, nat_le, if◌then◌else◌}
use Rattle.std.proofs.Common.{inl, inr}
use Rattle.std.proofs.lemmas.Bool.{cases_lt, cond-true, cond-false, le-leb, lt-leb, ne_eqb}
use Rattle.std.proofs.lemmas.List.{take-append-drop}
use Rattle.std.proofs.lemmas.List.Sums.{fold-append, fold_more}
use Rattle.std.proofs.lemmas.Option.{get_or_from_slice_get, slice_get_within}
use Rattle.tl_events.specs.declared.version_maps.VersionEnd.{VersionEnd}
use Rattle.tl_events.specs.Timeline.{binary_digits, Ascend, IsSplit, end_of, ends_of}
use Rattle.tl_types.specs.Plain as plain
use Rattle.tl_types.specs.Events.{events_at, events_of, place_of}
use Rattle.std.proofs.Common.{Bool, false, min, ◌==◌}
use Rattle.std.proofs.lemmas.List.{length-append}

-- a number is below 2 to the number of its digits
pub below_power : (n : ℕ) → n < 2 ^ binary_digits n
below_power n =
    subst (λ m. m < 2 ^ binary_digits n) (number_digits_of 2 n (omega arith))
    (number_lt 2 (digits_of 2 n) (all_below_base_digits_of 2 n (omega arith)))

-- a lesser number has no more digits
pub fewer_digits : (m n : ℕ) → m ≤ n → binary_digits m ≤ binary_digits n
fewer_digits m n less = length-digits_of-le 2 (binary_digits n) m (omega arith) (let e = below_power n in omega arith)

-- half of a number has a digit less
pub half_digits : (m n : ℕ) → 0 < n → m ≤ n / 2 → binary_digits m + 1 ≤ binary_digits n
half_digits m n some half =
    let e = length-digits_of_step 2 n (omega arith) some in
    let f = fewer_digits m (n / 2) half in
    omega arith

-- an entry that is not after the version, and those before it
pub front_more : (entries : List VersionEnd) (version middle : ℕ) (at : VersionEnd) → Ascend entries → slice_get entries middle ≡ Some at → at.version ≤ version
    → (i : ℕ) (entry : VersionEnd) → i < middle + 1 → slice_get entries i ≡ Some entry → entry.version ≤ version
front_more entries version middle at ascend is low i entry below here = by_place (cases_lt i middle) where
  by_place : (i < middle) ⊎ (middle ≤ i) → entry.version ≤ version
  by_place (inl before) = let e = ascend i middle entry at before here is in omega arith
  by_place (inr past) =
      let same : i ≡ middle = omega arith in
      let found : Some entry ≡ Some at = sym here ∙ ap (slice_get entries) same ∙ is in
      let e : entry.version ≡ at.version = ap (λ x. x.version) (let f : entry ≡ at = cc in f) in
      omega arith

-- an entry that is after the version, and those behind it
pub back_more : (entries : List VersionEnd) (version middle : ℕ) (at : VersionEnd) → Ascend entries → slice_get entries middle ≡ Some at → version < at.version
    → (i : ℕ) (entry : VersionEnd) → middle ≤ i → slice_get entries i ≡ Some entry → version < entry.version
back_more entries version middle at ascend is high i entry above here = by_place (cases_lt middle i) where
  by_place : (middle < i) ⊎ (i ≤ middle) → version < entry.version
  by_place (inl behind) = let e = ascend middle i at entry behind is here in omega arith
  by_place (inr before) =
      let same : i ≡ middle = omega arith in
      let found : Some entry ≡ Some at = sym here ∙ ap (slice_get entries) same ∙ is in
      let e : entry.version ≡ at.version = ap (λ x. x.version) (let f : entry ≡ at = cc in f) in
      omega arith

-- entries after the version change nothing
abbrev pub later_end : ℕ → ℕ → VersionEnd → ℕ
later_end version end entry = if nat_le entry.version version then entry.end else end

pub entries_after : (entries : List VersionEnd) (version end : ℕ) → ((i : ℕ) (entry : VersionEnd) → slice_get entries i ≡ Some entry → version < entry.version)
    → fold (later_end version) end entries ≡ end
entries_after [] version end after = refl
entries_after (entry ∷ entries) version end after =
    ap (λ e. fold (later_end version) e entries)
    (cond-false (nat_le entry.version version) entry.end end (lt-leb entry.version version (after 0 entry refl)))
    ∙ entries_after entries version end (λ i e. after (suc i) e)

-- the entries behind some first ones
pub slice_get-drop : {X : Type 0} (n : ℕ) (xs : List X) (i : ℕ) → slice_get (drop n xs) i ≡ slice_get xs (n + i)
slice_get-drop zero xs i = ap (slice_get xs) (let e : i ≡ 0 + i = omega arith in e)
slice_get-drop (suc n) [] i = refl
slice_get-drop (suc n) (x ∷ xs) i = slice_get-drop n xs i ∙ ap (slice_get (x ∷ xs)) (let e : suc (n + i) ≡ suc n + i = omega arith in e)

-- only the entries that are not after the version count
pub end_of_front : (entries : List VersionEnd) (version count : ℕ) → IsSplit entries version count → end_of entries version ≡ end_of (take count entries) version
end_of_front entries version count split =
    ap (fold (later_end version) 0) (sym (take-append-drop count entries))
    ∙ fold-append (later_end version) 0 (take count entries) (drop count entries)
    ∙ entries_after (drop count entries) version (end_of (take count entries) version)
    (λ i entry here. split.back (count + i) entry (omega arith) (sym (slice_get-drop count entries i) ∙ here))

-- the end of the last of some first entries that are not after the version
pub end_so_far : (entries : List VersionEnd) (version middle : ℕ) (at : VersionEnd) → slice_get entries middle ≡ Some at → at.version ≤ version → at.end ≡ end_of (take (middle + 1) entries) version
end_so_far entries version middle at here low =
    let found : get_or entries middle at ≡ at = get_or_from_slice_get entries middle at at here in
    let within : middle < length entries = slice_get_within entries middle at here in
    sym (fold_more (later_end version) 0 entries middle at within
    ∙ ap (later_end version (fold (later_end version) 0 (take middle entries))) found
    ∙ cond-true (nat_le at.version version) at.end (fold (later_end version) 0 (take middle entries)) (le-leb at.version version low))

-- where the first entries are those that are not after the version
pub end_when_split : (entries : List VersionEnd) (version count end : ℕ) → IsSplit entries version count → end ≡ end_of (take count entries) version → end ≡ end_of entries version
end_when_split entries version count end split is = is ∙ sym (end_of_front entries version count split)

-- one entry more has no fewer digits
pub digits_more : (n m steps bound : ℕ) → n ≡ m → steps ≤ bound + binary_digits n → steps ≤ bound + binary_digits (m + 1)
digits_more n m steps bound is few = let e = fewer_digits n (m + 1) (omega arith) in omega arith

-- what the entries of a table say of a version
pub end_of_places : (rows : List plain.Row) (last version : ℕ) → end_of (ends_of rows last) version ≡ place_of rows (min version last)
end_of_places rows zero version = ap (place_of rows) (let e : 0 ≡ min version 0 = omega arith in e)
end_of_places rows (suc last) version =
    fold-append (later_end version) 0 (ends_of rows last) (more (length (events_at rows (suc last)) == 0))
    ∙ ap (λ e. fold (later_end version) e (more (length (events_at rows (suc last)) == 0))) (end_of_places rows last version)
    ∙ by_events (length (events_at rows (suc last))) refl (cases_lt version (suc last)) where
      more : Bool → List VersionEnd
      more none = if none then [] else record { version = suc last; end = place_of rows (suc last) } ∷ []

      grown : place_of rows (suc last) ≡ place_of rows last + length (events_at rows (suc last))
      grown = length-append (events_of rows last) (events_at rows (suc last))

      some_events : (n : ℕ) → (suc n == 0) ≡ false
      some_events n = ne_eqb (suc n) 0 (λ e. omega arith)

      by_events : (n : ℕ) → length (events_at rows (suc last)) ≡ n → (version < suc last) ⊎ (suc last ≤ version)
          → fold (later_end version) (place_of rows (min version last)) (more (n == 0)) ≡ place_of rows (min version (suc last))
      by_events zero none (inl before) = ap (place_of rows) (let e : min version last ≡ min version (suc last) = omega arith in e)
      by_events zero none (inr past) =
          let here : min version last ≡ last = omega arith in
          let there : min version (suc last) ≡ suc last = omega arith in
          ap (place_of rows) here ∙ sym (ap (place_of rows) there ∙ grown ∙ omega arith)
      by_events (suc n) some (inl before) =
          ap (λ none. fold (later_end version) (place_of rows (min version last)) (more none)) (some_events n) ∙
          let same : min version last ≡ min version (suc last) = omega arith in
          cond-false (nat_le (suc last) version) (place_of rows (suc last)) (place_of rows (min version last)) (lt-leb (suc last) version before)
          ∙ ap (place_of rows) same
      by_events (suc n) some (inr past) =
          ap (λ none. fold (later_end version) (place_of rows (min version last)) (more none)) (some_events n) ∙
          let there : min version (suc last) ≡ suc last = omega arith in
          cond-true (nat_le (suc last) version) (place_of rows (suc last)) (place_of rows (min version last)) (le-leb (suc last) version past)
          ∙ sym (ap (place_of rows) there)

pub place_is : (rows : List plain.Row) (last version : ℕ) (entries : List VersionEnd) → entries ≡ ends_of rows last → version ≤ last → end_of entries version ≡ place_of rows version
place_is rows last version entries is within =
    let e : min version last ≡ version = omega arith in
    ap (λ es. end_of es version) is ∙ end_of_places rows last version ∙ ap (place_of rows) e
