-- Rows cut at their ends.
use Rattle.std.proofs.Common.{◌≡◌, ℕ, ◌+◌, ◌-◌, ◌<◌, ◌≤◌, List, [], ◌∷◌, ◌++◌, length, get_or, take, drop, zero, suc, refl, subst, ◌∙◌, arith}
use Rattle.std.proofs.lemmas.List.{drop_all, drop-append-le, drop-drop, length-drop, take_all, take-append-le}
use Rattle.tl_rows.specs.Rows.{rows_cut, behind_ends, start_of, AreEnds}

-- the last end is past no field
ends_near : (start : ℕ) (ends : List ℕ) (n : ℕ) → AreEnds start ends n → start ≤ n
ends_near start [] n h = h
ends_near start (end ∷ ends) n h = omega (arith, h.0, ends_near end ends n h.1)

-- the ends of what is behind the first one
ends_behind : {X : Type 0} (start end : ℕ) (ends : List ℕ) (fields : List X) → start ≤ end → AreEnds end ends (start + length fields) → AreEnds end ends (end + length (drop (end - start) fields))
ends_behind start end ends fields a h =
    let near = ends_near end ends (start + length fields) h in
    let e : start + length fields ≡ end + length (drop (end - start) fields) = omega (arith, length-drop (end - start) fields) in
    subst (λ n. AreEnds end ends n) e h

-- the ends stay ends where fields are appended
pub ends_more : (start : ℕ) (ends : List ℕ) (n m : ℕ) → n ≤ m → AreEnds start ends n → AreEnds start ends m
ends_more start [] n m a h = omega arith
ends_more start (end ∷ ends) n m a h = (h.0, ends_more end ends n m a h.1)

pub ends_pushed : (start : ℕ) (ends : List ℕ) (n : ℕ) → AreEnds start ends n → AreEnds start (ends ++ n ∷ []) n
ends_pushed start [] n h = (h, omega arith)
ends_pushed start (end ∷ ends) n h = (h.0, ends_pushed end ends n h.1)

-- fields that are appended belong to no ended row
cut_more_from : {X : Type 0} (start : ℕ) (ends : List ℕ) (fields more : List X) → AreEnds start ends (start + length fields) → rows_cut start ends (fields ++ more) ≡ rows_cut start ends fields
cut_more_from start [] fields more h = refl
cut_more_from start (end ∷ ends) fields more h =
    let near = ends_near end ends (start + length fields) h.1 in
    let fits : end - start ≤ length fields = omega (arith, h.0) in
    rw (take-append-le (end - start) fields more fits, drop-append-le (end - start) fields more fits, cut_more_from end ends (drop (end - start) fields) more (ends_behind start end ends fields h.0 h.1)) refl

pub cut_more : {X : Type 0} (ends : List ℕ) (fields more : List X) → AreEnds 0 ends (length fields) → rows_cut 0 ends (fields ++ more) ≡ rows_cut 0 ends fields
cut_more ends fields more h = cut_more_from 0 ends fields more (ends_more 0 ends _ _ (omega arith) h)

-- but to the row that is not ended
behind_more_from : {X : Type 0} (start : ℕ) (ends : List ℕ) (fields more : List X) → AreEnds start ends (start + length fields) → behind_ends start ends (fields ++ more) ≡ behind_ends start ends fields ++ more
behind_more_from start [] fields more h = refl
behind_more_from start (end ∷ ends) fields more h =
    let near = ends_near end ends (start + length fields) h.1 in
    let fits : end - start ≤ length fields = omega (arith, h.0) in
    rw (drop-append-le (end - start) fields more fits) (behind_more_from end ends (drop (end - start) fields) more (ends_behind start end ends fields h.0 h.1))

pub behind_more : {X : Type 0} (ends : List ℕ) (fields more : List X) → AreEnds 0 ends (length fields) → behind_ends 0 ends (fields ++ more) ≡ behind_ends 0 ends fields ++ more
behind_more ends fields more h = behind_more_from 0 ends fields more (ends_more 0 ends _ _ (omega arith) h)

-- an end behind all fields makes a row of those that belonged to no ended one
cut_ended_from : {X : Type 0} (start n : ℕ) (ends : List ℕ) (fields : List X) → start + length fields ≡ n → AreEnds start ends n → rows_cut start (ends ++ n ∷ []) fields ≡ rows_cut start ends fields ++ behind_ends start ends fields ∷ []
cut_ended_from start n [] fields e h = rw (take_all (n - start) fields (omega arith)) refl
cut_ended_from start n (end ∷ ends) fields e h =
    let near = ends_near end ends n h.1 in
    let f : end + length (drop (end - start) fields) ≡ n = omega (arith, h.0, length-drop (end - start) fields) in
    rw (cut_ended_from end n ends (drop (end - start) fields) f h.1) refl

pub cut_ended : {X : Type 0} (ends : List ℕ) (fields : List X) → AreEnds 0 ends (length fields) → rows_cut 0 (ends ++ length fields ∷ []) fields ≡ rows_cut 0 ends fields ++ behind_ends 0 ends fields ∷ []
cut_ended ends fields h = cut_ended_from 0 (length fields) ends fields (omega arith) h

-- and leaves none
behind_ended_from : {X : Type 0} (start n : ℕ) (ends : List ℕ) (fields : List X) → start + length fields ≡ n → AreEnds start ends n → behind_ends start (ends ++ n ∷ []) fields ≡ []
behind_ended_from start n [] fields e h = drop_all (n - start) fields (omega arith)
behind_ended_from start n (end ∷ ends) fields e h =
    let near = ends_near end ends n h.1 in
    behind_ended_from end n ends (drop (end - start) fields) (omega (arith, h.0, length-drop (end - start) fields)) h.1

pub behind_ended : {X : Type 0} (ends : List ℕ) (fields : List X) → AreEnds 0 ends (length fields) → behind_ends 0 (ends ++ length fields ∷ []) fields ≡ []
behind_ended ends fields h = behind_ended_from 0 (length fields) ends fields (omega arith) h

-- a row for each end
pub length_cut : {X : Type 0} (start : ℕ) (ends : List ℕ) (fields : List X) → length (rows_cut start ends fields) ≡ length ends
length_cut start [] fields = refl
length_cut start (end ∷ ends) fields = rw (length_cut end ends (drop (end - start) fields)) refl

-- a row begins no later than it ends, and ends past no field
bounds_from : (start : ℕ) (ends : List ℕ) (n row : ℕ) → AreEnds start ends n → row < length ends → (start ≤ get_or (start ∷ ends) row 0) × (get_or (start ∷ ends) row 0 ≤ get_or ends row 0) × (get_or ends row 0 ≤ n)
bounds_from start [] n row h lt = absurd (omega arith)
bounds_from start (end ∷ ends) n zero h lt = (omega arith, h.0, ends_near end ends n h.1)
bounds_from start (end ∷ ends) n (suc row) h lt =
    let b = bounds_from end ends n row h.1 (omega arith) in
    (omega (arith, b.0, h.0), b.1, b.2)

pub row_bounds : (ends : List ℕ) (n row : ℕ) → AreEnds 0 ends n → row < length ends → (start_of ends row ≤ get_or ends row 0) × (get_or ends row 0 ≤ n)
row_bounds ends n row h lt = let b = bounds_from 0 ends n row h lt in (b.1, b.2)

-- the fields of a row
cut_at_from : {X : Type 0} (start : ℕ) (ends : List ℕ) (fields : List X) (row : ℕ) → AreEnds start ends (start + length fields) → row < length ends → get_or (rows_cut start ends fields) row [] ≡ take (get_or ends row 0 - get_or (start ∷ ends) row 0) (drop (get_or (start ∷ ends) row 0 - start) fields)
cut_at_from start [] fields row h lt = absurd (omega arith)
cut_at_from start (end ∷ ends) fields zero h lt =
    let e : start - start ≡ 0 = omega arith in
    rw e refl
cut_at_from start (end ∷ ends) fields (suc row) h lt =
    let rest = ends_behind start end ends fields h.0 h.1 in
    let b = bounds_from end ends _ row rest (omega arith) in
    let e : end - start + (get_or (end ∷ ends) row 0 - end) ≡ get_or (end ∷ ends) row 0 - start = omega (arith, b.0, h.0) in
    cut_at_from end ends (drop (end - start) fields) row rest (omega arith) ∙ rw (drop-drop (get_or (end ∷ ends) row 0 - end) (end - start) fields, e) refl

pub cut_at : {X : Type 0} (ends : List ℕ) (fields : List X) (row : ℕ) → AreEnds 0 ends (length fields) → row < length ends → get_or (rows_cut 0 ends fields) row [] ≡ take (get_or ends row 0 - start_of ends row) (drop (start_of ends row) fields)
cut_at ends fields row h lt =
    let e : start_of ends row - 0 ≡ start_of ends row = omega arith in
    rw e at (cut_at_from 0 ends fields row (ends_more 0 ends _ _ (omega arith) h) lt)
