-- The entries of a version map behind a version.
use Rattle.std.proofs.Common.{◌≡◌, ℕ, zero, suc, ◌+◌, ◌-◌, ◌<◌, ◌≤◌, ◌⊎◌, inl, inr, true, false, List, [], ◌∷◌, ◌++◌, length, drop, get_or, Some, refl, sym, ap, ◌∙◌, arith, subst, slice_get, length-append}
use Rattle.std.specs.Prelude.{◌==◌}
use Rattle.std.proofs.lemmas.Bool.{cases_lt, cases_Bool, cond-true, cond-false, eqb-true}
use Rattle.std.proofs.lemmas.List.{append_assoc, append-nil, nil_from_length}
use Rattle.std.proofs.lemmas.Option.{slice_get_past, slice_get-get_or}
use Rattle.std.proofs.Math.Seq.{drop-append_seam}
use Rattle.tl_types.specs.Plain as plain
use Rattle.tl_types.specs.Events.{events_at, place_of}
use Rattle.tl_types.proofs.CheckpointLemmas.{get_front}
use Rattle.tl_events.specs.declared.version_maps.VersionEnd.{VersionEnd}
use Rattle.tl_events.specs.Timeline.{ends_of, IsSplit, Follow}

-- LISTS

get_last : {X : Type 0} (xs : List X) (last e : X) (i : ℕ) → length xs ≤ i → slice_get (xs ++ last ∷ []) i ≡ Some e → last ≡ e
get_last [] last e zero l is = cc
get_last [] last e (suc i) l is = absurd (cc)
get_last (x ∷ xs) last e zero l is = absurd (omega arith)
get_last (x ∷ xs) last e (suc i) l is = get_last xs last e i (omega arith) is

get_behind : {X : Type 0} (xs : List X) (y : X) (ys : List X) → slice_get (xs ++ y ∷ ys) (length xs) ≡ Some y
get_behind [] y ys = refl
get_behind (x ∷ xs) y ys = get_behind xs y ys

-- what is behind some first items, by the next one
pub drop_get : {X : Type 0} (xs : List X) (i : ℕ) (x : X) → slice_get xs i ≡ Some x → drop i xs ≡ x ∷ drop (i + 1) xs
drop_get [] i x is = absurd (cc)
drop_get (y ∷ xs) zero x is = let e : y ≡ x = cc in ap (λ z. z ∷ xs) e
drop_get (y ∷ xs) (suc i) x is = let s : suc i + 1 ≡ suc (i + 1) = omega arith in drop_get xs i x is ∙ ap (λ n. x ∷ drop n (y ∷ xs)) (sym s)

abbrev entry_of : List plain.Row → ℕ → VersionEnd
entry_of rows version = record { version = version; end = place_of rows version }

-- a version without events more
follow_quiet : (rows : List plain.Row) (last at : ℕ) (es : List VersionEnd) → at ≤ last → events_at rows (suc last) ≡ [] → Follow rows last at es → Follow rows (suc last) at es
follow_quiet rows last at [] l none follow = λ m a b. by_last m a b (cases_lt m (suc last)) where
  by_last : (m : ℕ) → at < m → m < suc (suc last) → (m < suc last) ⊎ (suc last ≤ m) → events_at rows m ≡ []
  by_last m a b (inl k) = follow m a k
  by_last m a b (inr k) = let e : m ≡ suc last = omega arith in ap (events_at rows) e ∙ none
follow_quiet rows last at (e ∷ es) l none follow = (follow.0, le_suc follow.1, follow.2, follow.3, follow.4, follow_quiet rows last e.version es follow.1 none follow.5) where
  le_suc : {a b : ℕ} → a ≤ b → a ≤ suc b
  le_suc k = omega arith

-- a version with events more
follow_push : (rows : List plain.Row) (last at : ℕ) (es : List VersionEnd) → at ≤ last → 0 < length (events_at rows (suc last)) → Follow rows last at es → Follow rows (suc last) at (es ++ entry_of rows (suc last) ∷ [])
follow_push rows last at [] l some follow =
    let begin : at < suc last = omega arith in
    let within : suc last ≤ suc last = omega arith in
    (begin, within, follow, refl, some, (λ m a b. absurd (omega arith)))
follow_push rows last at (e ∷ es) l some follow =
    let within : e.version ≤ suc last = le_suc follow.1 in
    (follow.0, within, follow.2, follow.3, follow.4, follow_push rows last e.version es follow.1 some follow.5) where
      le_suc : {a b : ℕ} → a ≤ b → a ≤ suc b
      le_suc k = omega arith

some_of : (n : ℕ) → (n == 0) ≡ false → 0 < n
some_of zero h = absurd (cc)
some_of (suc n) h = omega arith

-- the entries up to a later version
pub ends_follow : (rows : List plain.Row) (at k : ℕ) → (more : List VersionEnd) × (ends_of rows (at + k) ≡ ends_of rows at ++ more) × Follow rows (at + k) at more
ends_follow rows at zero =
    let e : at + 0 ≡ at = omega arith in
    ([], ap (ends_of rows) e ∙ sym (append-nil (ends_of rows at)), (λ m a b. absurd (omega arith)))
ends_follow rows at (suc k) = by_events (cases_Bool (length (events_at rows (suc (at + k))) == 0)) (ends_follow rows at k) where
  e : at + suc k ≡ suc (at + k)
  e = omega arith

  by_events : (length (events_at rows (suc (at + k))) == 0 ≡ true) ⊎ (length (events_at rows (suc (at + k))) == 0 ≡ false)
      → ((more : List VersionEnd) × (ends_of rows (at + k) ≡ ends_of rows at ++ more) × Follow rows (at + k) at more)
      → (more : List VersionEnd) × (ends_of rows (at + suc k) ≡ ends_of rows at ++ more) × Follow rows (at + suc k) at more
  by_events (inl none) ih =
      let nothing : events_at rows (suc (at + k)) ≡ [] = nil_from_length (events_at rows (suc (at + k))) (eqb-true (length (events_at rows (suc (at + k)))) 0 none) in
      let step : ends_of rows (suc (at + k)) ≡ ends_of rows (at + k) = ap (λ es. ends_of rows (at + k) ++ es) (cond-true (length (events_at rows (suc (at + k))) == 0) [] (entry_of rows (suc (at + k)) ∷ []) none) ∙ append-nil (ends_of rows (at + k)) in
      (ih.0, ap (ends_of rows) e ∙ step ∙ ih.1, subst (λ n. Follow rows n at ih.0) (sym e) (follow_quiet rows (at + k) at ih.0 (omega arith) nothing ih.2))
  by_events (inr some) ih =
      let step : ends_of rows (suc (at + k)) ≡ ends_of rows (at + k) ++ entry_of rows (suc (at + k)) ∷ [] = ap (λ es. ends_of rows (at + k) ++ es) (cond-false (length (events_at rows (suc (at + k))) == 0) [] (entry_of rows (suc (at + k)) ∷ []) some) in
      (ih.0 ++ entry_of rows (suc (at + k)) ∷ [], ap (ends_of rows) e ∙ step ∙ ap (λ es. es ++ entry_of rows (suc (at + k)) ∷ []) ih.1 ∙ append_assoc (ends_of rows at) ih.0 (entry_of rows (suc (at + k)) ∷ []), subst (λ n. Follow rows n at (ih.0 ++ entry_of rows (suc (at + k)) ∷ [])) (sym e) (follow_push rows (at + k) at ih.0 (omega arith) (some_of (length (events_at rows (suc (at + k)))) some) ih.2))

follow_high : (rows : List plain.Row) (last at : ℕ) (es : List VersionEnd) → Follow rows last at es → (i : ℕ) (e : VersionEnd) → slice_get es i ≡ Some e → at < e.version
follow_high rows last at [] follow i e is = absurd (cc)
follow_high rows last at (x ∷ es) follow zero e is = let s : x ≡ e = cc in subst (λ (y : VersionEnd). at < y.version) s follow.0
follow_high rows last at (x ∷ es) follow (suc i) e is = let l = follow_high rows last x.version es follow.5 i e is in let m = follow.0 in omega arith

ends_low : (rows : List plain.Row) (v i : ℕ) (e : VersionEnd) → slice_get (ends_of rows v) i ≡ Some e → e.version ≤ v
ends_low rows zero i e is = absurd (cc)
ends_low rows (suc v) i e is = by_place (cases_lt i (length (ends_of rows v))) (cases_Bool (length (events_at rows (suc v)) == 0)) (λ g. ends_low rows v i e g) where
  by_place : (i < length (ends_of rows v)) ⊎ (length (ends_of rows v) ≤ i) → (length (events_at rows (suc v)) == 0 ≡ true) ⊎ (length (events_at rows (suc v)) == 0 ≡ false) → (slice_get (ends_of rows v) i ≡ Some e → e.version ≤ v) → e.version ≤ suc v
  by_place (inl front) k ih = let l = ih (sym (get_front (ends_of rows v) _ i front) ∙ is) in omega arith
  by_place (inr back) (inl none) ih =
      absurd (let h : slice_get (ends_of rows v ++ []) i ≡ Some e = ap (λ es. slice_get (ends_of rows v ++ es) i) (sym (cond-true (length (events_at rows (suc v)) == 0) [] (entry_of rows (suc v) ∷ []) none)) ∙ is in
      let g : slice_get (ends_of rows v) i ≡ Some e = ap (λ es. slice_get es i) (sym (append-nil (ends_of rows v))) ∙ h in
      let p = slice_get_past (ends_of rows v) i back in cc)
  by_place (inr back) (inr some) ih =
      let h : slice_get (ends_of rows v ++ entry_of rows (suc v) ∷ []) i ≡ Some e = ap (λ es. slice_get (ends_of rows v ++ es) i) (sym (cond-false (length (events_at rows (suc v)) == 0) [] (entry_of rows (suc v) ∷ []) some)) ∙ is in
      let last : entry_of rows (suc v) ≡ e = get_last (ends_of rows v) (entry_of rows (suc v)) e i back h in
      let same : suc v ≡ e.version = ap (λ (x : VersionEnd). x.version) last in omega arith

split_at : (front more : List VersionEnd) (version count : ℕ) → IsSplit (front ++ more) version count
    → ((i : ℕ) (e : VersionEnd) → slice_get front i ≡ Some e → e.version ≤ version)
    → ((i : ℕ) (e : VersionEnd) → slice_get more i ≡ Some e → version < e.version)
    → (count < length front) ⊎ (length front ≤ count) → count ≡ length front
split_at front more version count split low high (inl less) =
    let e = get_or front count (record { version = 0; end = 0 }) in
    let is : slice_get front count ≡ Some e = slice_get-get_or front count (record { version = 0; end = 0 }) less in
    let here = get_front front more count less ∙ is in
    let above = split.back count e (omega arith) here in
    let below = low count e is in absurd (omega arith)
split_at front [] version count split low high (inr past) =
    let short = split.within in
    let long : length (front ++ []) ≡ length front + 0 = length-append front [] in omega arith
split_at front (e ∷ more) version count split low high (inr past) = by_more (cases_lt (length front) count) where
  by_more : (length front < count) ⊎ (count ≤ length front) → count ≡ length front
  by_more (inl more_than) =
      let below = split.front (length front) e more_than (get_behind front e more) in
      let above = high 0 e refl in absurd (omega arith)
  by_more (inr same) = omega arith

-- the entries behind those up to a version
pub split_follow : (rows : List plain.Row) (last version count : ℕ) → version ≤ last → IsSplit (ends_of rows last) version count
    → Follow rows last version (drop count (ends_of rows last))
split_follow rows last version count l split =
    let e : version + (last - version) ≡ last = omega arith in
    let parts = ends_follow rows version (last - version) in
    let whole : ends_of rows last ≡ ends_of rows version ++ parts.0 = ap (ends_of rows) (sym e) ∙ parts.1 in
    let follow : Follow rows last version parts.0 = subst (λ n. Follow rows n version parts.0) e parts.2 in
    let count_is : count ≡ length (ends_of rows version) = split_at (ends_of rows version) parts.0 version count (subst (λ es. IsSplit es version count) whole split) (λ i e is. ends_low rows version i e is) (λ i e is. follow_high rows last version parts.0 follow i e is) (cases_lt count (length (ends_of rows version))) in
    let rest : drop count (ends_of rows last) ≡ parts.0 = ap (drop count) whole ∙ ap (λ n. drop n (ends_of rows version ++ parts.0)) count_is ∙ drop-append_seam (ends_of rows version) parts.0 in
    subst (λ es. Follow rows last version es) (sym rest) follow
