-- Bounds that ascend, and the pieces between them.
use Rattle.std.proofs.Common.{◌≡◌, ◌⊎◌, inl, inr, ℕ, zero, suc, ◌+◌, ◌-◌, ◌<◌, ◌≤◌, Bool, true, false, ◌&&◌, cond, nat_lt, List, [], ◌∷◌, ◌++◌, length, drop, get_or, Some, refl, sym, ap, ◌∙◌, arith, subst, slice_get, length-append, append_assoc}
use Rattle.std.specs.Prelude.{slice_index_or, min}
use Rattle.std.proofs.lemmas.Bool.{cases_lt}
use Rattle.std.proofs.lemmas.Bool.Decides.{nat_tests}
use Rattle.std.proofs.lemmas.Option.{get_or_from_slice_get, slice_get_within}
use Rattle.tl_types.specs.Checkpoints.{Checkpoint}
use Rattle.tl_types.specs.declared.runs.Piece.{Piece}
use Rattle.tl_types.proofs.Lists.{and_left, and_right}
use Rattle.tl_range.specs.Dividing.{inside, bounds_of, pushed, last_pushed, Ascend, Follow, StandsInside, BeginInside, IsMarked, AreDivided}

-- BOUNDS

-- one mark more
pub push_more : (bounds : List ℕ) (after before : ℕ) (mark : Checkpoint) (marks : List Checkpoint) → pushed bounds after mark.version before ++ inside (last_pushed after mark.version before) before marks ≡ bounds ++ inside after before (mark ∷ marks)
push_more bounds after before mark marks = by_test (nat_lt after mark.version && nat_lt mark.version before) where
  by_test : (b : Bool) → cond b (bounds ++ mark.version ∷ []) bounds ++ inside (cond b mark.version after) before marks ≡ bounds ++ cond b (mark.version ∷ inside mark.version before marks) (inside after before marks)
  by_test true = append_assoc bounds (mark.version ∷ []) (inside mark.version before marks)
  by_test false = refl

-- what is behind some first items, by the next one
pub drop_get : {X : Type 0} (xs : List X) (i : ℕ) (x : X) → slice_get xs i ≡ Some x → drop i xs ≡ x ∷ drop (i + 1) xs
drop_get [] i x is = absurd (cc)
drop_get (y ∷ xs) zero x is = let e : y ≡ x = cc in ap (λ z. z ∷ xs) e
drop_get (y ∷ xs) (suc i) x is = let s : suc i + 1 ≡ suc (i + 1) = omega arith in drop_get xs i x is ∙ ap (λ n. x ∷ drop n (y ∷ xs)) (sym s)

-- each is greater than the one before it, and than a first one
abbrev pub Rise : ℕ → List ℕ → Type 0
Rise low [] = Unit {0}
Rise low (v ∷ vs) = (low < v) × Rise v vs

rise_inside : (after before : ℕ) (marks : List Checkpoint) → after < before → Rise after (inside after before marks ++ before ∷ [])
rise_inside after before [] l = (l, tt)
rise_inside after before (mark ∷ marks) l = by_test (nat_lt after mark.version && nat_lt mark.version before) refl (rise_inside after before marks l) (λ h. rise_inside mark.version before marks h) where
  by_test : (b : Bool) → (nat_lt after mark.version && nat_lt mark.version before) ≡ b → Rise after (inside after before marks ++ before ∷ []) → (mark.version < before → Rise mark.version (inside mark.version before marks ++ before ∷ []))
      → Rise after (cond b (mark.version ∷ inside mark.version before marks) (inside after before marks) ++ before ∷ [])
  by_test true e skip take =
      let low : after < mark.version = let h = and_left (nat_lt after mark.version) (nat_lt mark.version before) e in grind (arith, nat_tests) in
      let high : mark.version < before = let h = and_right (nat_lt after mark.version) (nat_lt mark.version before) e in grind (arith, nat_tests) in
      (low, take high)
  by_test false e skip take = skip

above : (low : ℕ) (vs : List ℕ) (j b : ℕ) → Rise low vs → slice_get vs j ≡ Some b → low < b
above low [] j b rise is = absurd (cc)
above low (v ∷ vs) zero b rise is = let e : v ≡ b = cc in subst (λ x. low < x) e rise.0
above low (v ∷ vs) (suc j) b rise is = let h = above v vs j b rise.1 is in let l = rise.0 in omega arith

rise_ascend : (low : ℕ) (vs : List ℕ) → Rise low vs → Ascend (low ∷ vs)
rise_ascend low vs rise i zero a b l is js = absurd (omega arith)
rise_ascend low vs rise zero (suc j) a b l is js = let e : low ≡ a = cc in subst (λ x. x < b) e (above low vs j b rise js)
rise_ascend low [] rise (suc i) (suc j) a b l is js = absurd (cc)
rise_ascend low (v ∷ vs) rise (suc i) (suc j) a b l is js = rise_ascend v vs rise.1 i j a b (omega arith) is js

pub bounds_ascend : (from to : ℕ) (marks : List Checkpoint) → from < to → Ascend (bounds_of from to marks)
bounds_ascend from to marks l = rise_ascend from (inside from to marks ++ to ∷ []) (rise_inside from to marks l)

pub bounds_many : (from to : ℕ) (marks : List Checkpoint) → length (bounds_of from to marks) ≡ length (inside from to marks) + 2
bounds_many from to marks = let a = length-append (inside from to marks) (to ∷ []) in omega arith

last_of : (vs : List ℕ) (v : ℕ) → get_or (vs ++ v ∷ []) (length vs) 0 ≡ v
last_of [] v = refl
last_of (x ∷ vs) v = last_of vs v

pub bounds_last : (from to : ℕ) (marks : List Checkpoint) → slice_index_or (bounds_of from to marks) (length (bounds_of from to marks) - 1) 0 ≡ to
bounds_last from to marks =
    let a = bounds_many from to marks in
    let e : length (bounds_of from to marks) - 1 ≡ suc (length (inside from to marks)) = omega arith in
    ap (λ n. slice_index_or (bounds_of from to marks) n 0) e ∙ last_of (inside from to marks) to

-- what stands inside the range is the version of a mark
marked_inside : (after before : ℕ) (marks : List Checkpoint) (i v : ℕ) → slice_get (inside after before marks) i ≡ Some v → IsMarked marks v
marked_inside after before [] i v is = absurd (cc)
marked_inside after before (mark ∷ marks) i v is = by_test (nat_lt after mark.version && nat_lt mark.version before) i is (λ a j h. later (marked_inside a before marks j v h)) where
  later : IsMarked marks v → IsMarked (mark ∷ marks) v
  later m = record { place = suc m.place; mark = m.mark; there = m.there; same = m.same }

  by_test : (b : Bool) (i : ℕ) → slice_get (cond b (mark.version ∷ inside mark.version before marks) (inside after before marks)) i ≡ Some v
      → ((a j : ℕ) → slice_get (inside a before marks) j ≡ Some v → IsMarked (mark ∷ marks) v) → IsMarked (mark ∷ marks) v
  by_test true zero is ih = record { place = 0; mark = mark; there = refl; same = let e : mark.version ≡ v = cc in e }
  by_test true (suc j) is ih = ih mark.version j is
  by_test false i is ih = ih after i is

front_get : {X : Type 0} (xs ys : List X) (i : ℕ) → i < length xs → slice_get (xs ++ ys) i ≡ slice_get xs i
front_get [] ys i l = absurd (omega arith)
front_get (x ∷ xs) ys zero l = refl
front_get (x ∷ xs) ys (suc i) l = front_get xs ys i (omega arith)

-- a bound that is neither the first nor the last is the version of a mark
pub bound_marked : (from to : ℕ) (marks : List Checkpoint) (i v : ℕ) → 0 < i → i ≤ length (inside from to marks) → slice_get (bounds_of from to marks) i ≡ Some v → IsMarked marks v
bound_marked from to marks zero v l h is = absurd (omega arith)
bound_marked from to marks (suc i) v l h is = marked_inside from to marks i v (sym (front_get (inside from to marks) (to ∷ []) i (omega arith)) ∙ is)

-- PIECES

pub follow_push : (from mid : ℕ) (pieces : List Piece) (piece : Piece) → Follow from mid pieces → piece.from ≡ mid → Follow from piece.to (pieces ++ piece ∷ [])
follow_push from mid [] piece follow is = (is ∙ sym follow, refl)
follow_push from mid (p ∷ pieces) piece follow is = (follow.0, follow_push p.to mid pieces piece follow.1 is)

get_last : {X : Type 0} (xs : List X) (x y : X) (i : ℕ) → length xs ≤ i → slice_get (xs ++ x ∷ []) i ≡ Some y → x ≡ y
get_last [] x y zero l is = cc
get_last [] x y (suc i) l is = absurd (cc)
get_last (z ∷ xs) x y zero l is = absurd (omega arith)
get_last (z ∷ xs) x y (suc i) l is = get_last xs x y i (omega arith) is

pub begin_push : (bounds : List ℕ) (pieces : List Piece) (piece : Piece) (at : ℕ) → slice_get bounds at ≡ Some piece.from → at + 1 < length bounds → (0 < length pieces → 0 < at) → BeginInside bounds pieces → BeginInside bounds (pieces ++ piece ∷ [])
begin_push bounds pieces piece at there before behind begin i p l is = by_place (cases_lt i (length pieces)) where
  last_place : (i : ℕ) → length pieces ≤ i → slice_get (pieces ++ piece ∷ []) i ≡ Some p → i ≡ length pieces
  last_place i back is =
      let w = slice_get_within (pieces ++ piece ∷ []) i p is in
      let n = length-append pieces (piece ∷ []) in omega arith

  by_place : (i < length pieces) ⊎ (length pieces ≤ i) → StandsInside bounds p.from
  by_place (inl front) = begin i p l (sym (front_get pieces (piece ∷ []) i front) ∙ is)
  by_place (inr back) =
      let same : piece ≡ p = get_last pieces piece p i back is in
      let i_is : i ≡ length pieces = last_place i back is in
      subst (λ (q : Piece). StandsInside bounds q.from) same (record { place = at; behind = behind (omega arith); before = before; there = there })

pub divided : (marks : List Checkpoint) (from to workers : ℕ) (bounds : List ℕ) (pieces : List Piece) (count first last : ℕ) → bounds ≡ bounds_of from to marks → count ≡ min workers (length bounds - 1)
    → length pieces ≡ count → Follow first last pieces → first ≡ slice_index_or bounds 0 0 → last ≡ slice_index_or bounds (length bounds - 1) 0 → BeginInside bounds pieces → AreDivided marks from to workers pieces
divided marks from to workers bounds pieces count first last bounds_is count_is number cover first_is last_is begin =
    let many = ap length bounds_is ∙ bounds_many from to marks in
    let first_at : first ≡ from = first_is ∙ ap (λ b. slice_index_or b 0 0) bounds_is in
    let last_at : last ≡ to = last_is ∙ ap (λ b. slice_index_or b (length b - 1) 0) bounds_is ∙ bounds_last from to marks in
    let gaps : length bounds - 1 ≡ length (inside from to marks) + 1 = omega arith in record {
      cover = subst (λ t. Follow from t pieces) last_at (subst (λ f. Follow f last pieces) first_at cover);
      marked = λ i p l is.
          let s = begin i p l is in
          let b = s.before in
          bound_marked from to marks s.place p.from s.behind (omega arith) (ap (λ b. slice_get b s.place) (sym bounds_is) ∙ s.there);
      number = number ∙ count_is ∙ ap (min workers) gaps;
    }

-- THE LOOPS

pub bounds_more : (bounds new all : List ℕ) (after last version before i : ℕ) (mark : Checkpoint) (marks : List Checkpoint) → version ≡ mark.version → slice_get marks i ≡ Some mark → new ≡ pushed bounds after version before → last ≡ last_pushed after version before
    → bounds ++ inside after before (drop i marks) ≡ all → new ++ inside last before (drop (i + 1) marks) ≡ all
bounds_more bounds new all after last version before i mark marks version_is is new_is last_is so_far =
    ap (λ n. n ++ inside last before (drop (i + 1) marks)) new_is
    ∙ ap (λ l. pushed bounds after version before ++ inside l before (drop (i + 1) marks)) last_is
    ∙ ap (λ v. pushed bounds after v before ++ inside (last_pushed after v before) before (drop (i + 1) marks)) version_is
    ∙ push_more bounds after before mark (drop (i + 1) marks)
    ∙ ap (λ ms. bounds ++ inside after before ms) (sym (drop_get marks i mark is))
    ∙ so_far

pub piece_more : (bounds : List ℕ) (pieces new : List Piece) (piece : Piece) (at next : ℕ) → new ≡ pieces ++ piece ∷ [] → slice_get bounds at ≡ Some piece.from → slice_get bounds next ≡ Some piece.to
    → Follow (slice_index_or bounds 0 0) (slice_index_or bounds at 0) pieces → Follow (slice_index_or bounds 0 0) (slice_index_or bounds next 0) new
piece_more bounds pieces new piece at next new_is from_is to_is follow =
    let from : piece.from ≡ slice_index_or bounds at 0 = sym (get_or_from_slice_get bounds at piece.from 0 from_is) in
    let to : slice_index_or bounds next 0 ≡ piece.to = get_or_from_slice_get bounds next piece.to 0 to_is in
    subst (λ t. Follow (slice_index_or bounds 0 0) t new) (sym to)
    (subst (Follow (slice_index_or bounds 0 0) piece.to) (sym new_is) (follow_push (slice_index_or bounds 0 0) (slice_index_or bounds at 0) pieces piece follow from))
