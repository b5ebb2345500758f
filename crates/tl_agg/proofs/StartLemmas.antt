-- The rows of the start set enter one by one.
use Rattle.std.proofs.Common.{◌≡◌, ℕ, zero, suc, ◌+◌, ◌<◌, ◌≤◌, ◌==◌, Bool, true, false, cond, List, [], ◌∷◌, length, set, Some, refl, sym, ap, ◌∙◌, arith, subst, slice_get}
use Rattle.std.proofs.lemmas.List.Sums.{sum_by-append, count_by-le-length}
use Rattle.tl_types.specs.Plain as plain
use Rattle.tl_types.specs.Events.{activation}
use Rattle.tl_types.specs.Walks.{after_event}
use Rattle.tl_bits.specs.Sets.{is_member, IsFree, IsNext}
use Rattle.tl_agg.specs.Kept.{below, size, IsWhole}
use Rattle.tl_agg.specs.Scans.{Turns}

pub below_length : (n : ℕ) (bs : List Bool) → length (below n bs) ≡ length bs
below_length n [] = refl
below_length zero (b ∷ bs) = ap suc (below_length zero bs)
below_length (suc n) (b ∷ bs) = ap suc (below_length n bs)

pub below_free : (n m : ℕ) (bs : List Bool) → n ≤ m → IsFree bs n m → below m bs ≡ below n bs
below_free n m [] l free = refl
below_free zero zero (b ∷ bs) l free = refl
below_free zero (suc m) (b ∷ bs) l free = let first : b ≡ false = free 0 (omega arith) (omega arith) in ap (λ x. x ∷ below m bs) first ∙ ap (λ xs. false ∷ xs) (below_free zero m bs (omega arith) (λ i a c. free (suc i) (omega arith) (omega arith)))
below_free (suc n) zero (b ∷ bs) l free = absurd (omega arith)
below_free (suc n) (suc m) (b ∷ bs) l free = ap (λ xs. b ∷ xs) (below_free n m bs (omega arith) (λ i a c. free (suc i) (omega arith) (omega arith)))

pub below_all : (n : ℕ) (bs : List Bool) → length bs ≤ n → below n bs ≡ bs
below_all n [] l = refl
below_all zero (b ∷ bs) l = absurd (omega arith)
below_all (suc n) (b ∷ bs) l = ap (λ xs. b ∷ xs) (below_all n bs (omega arith))

-- one member more
below_one : (i : ℕ) (bs : List Bool) → is_member bs i ≡ true → set (below i bs) i true ≡ below (suc i) bs
below_one i [] there = absurd (cc)
below_one zero (b ∷ bs) there = ap (λ x. x ∷ below zero bs) (sym there)
below_one (suc i) (b ∷ bs) there = ap (λ xs. b ∷ xs) (below_one i bs there)

below_out : (i : ℕ) (bs : List Bool) → i < length bs → slice_get (below i bs) i ≡ Some false
below_out i [] l = absurd (omega arith)
below_out zero (b ∷ bs) l = refl
below_out (suc i) (b ∷ bs) l = below_out i bs (omega arith)

-- the next member enters
pub next_turns : (rows : List plain.Row) (start : List Bool) (from row : ℕ) → length start ≡ length rows → IsNext start from row → Turns rows (below from start) (activation row)
next_turns rows start from row long next = record {
  long = below_length from start ∙ long;
  turn = subst (λ bs. slice_get bs row ≡ Some false) (below_free from row start next.not_below next.least) (below_out row start next.inside);
}

pub next_below : (start : List Bool) (from row : ℕ) → IsNext start from row → after_event (below from start) (activation row) ≡ below (row + 1) start
next_below start from row next =
    let s : row + 1 ≡ suc row = omega arith in
    ap (λ bs. set bs row true) (sym (below_free from row start next.not_below next.least)) ∙ below_one row start next.member ∙ ap (λ n. below n start) (sym s)

pub rest_below : (start : List Bool) (from : ℕ) → from ≤ length start → IsFree start from (length start) → below from start ≡ start
rest_below start from l free = sym (below_free from (length start) start l free) ∙ below_all (length start) start (omega arith)

-- HOW MANY MEMBERS

size_first : (b : Bool) (bs : List Bool) → size (b ∷ bs) ≡ cond b 1 0 + size bs
size_first b bs = let z : 0 + cond b 1 0 ≡ cond b 1 0 = omega arith in sum_by-append (λ (n : Bool). cond n 1 0) (b ∷ []) bs ∙ ap (λ n. n + size bs) z

pub size_none : (bs : List Bool) → size (below 0 bs) ≡ 0
size_none [] = refl
size_none (b ∷ bs) = size_first false (below 0 bs) ∙ ap (λ n. 0 + n) (size_none bs)

size_one : (i : ℕ) (bs : List Bool) → is_member bs i ≡ true → size (below (suc i) bs) ≡ size (below i bs) + 1
size_one i [] there = absurd (cc)
size_one zero (b ∷ bs) there =
    let a = size_first b (below zero bs) in
    let c = size_first false (below zero bs) in
    let d : cond {A = ℕ} b 1 0 ≡ 1 = ap (λ (x : Bool). cond {A = ℕ} x 1 0) there in omega arith
size_one (suc i) (b ∷ bs) there =
    let a = size_first b (below (suc i) bs) in
    let c = size_first b (below i bs) in
    let ih = size_one i bs there in omega arith

pub next_size : (start : List Bool) (from row : ℕ) → IsNext start from row → size (below (row + 1) start) ≡ size (below from start) + 1
next_size start from row next =
    let s : row + 1 ≡ suc row = omega arith in
    ap (λ n. size (below n start)) s ∙ size_one row start next.member ∙ ap (λ bs. size bs + 1) (below_free from row start next.not_below next.least)

pub size_below : (n : ℕ) (bs : List Bool) → size (below n bs) ≤ size bs
size_below n [] = omega arith
size_below zero (b ∷ bs) =
    let a = size_first b bs in
    let c = size_first false (below zero bs) in
    let ih = size_below zero bs in omega arith
size_below (suc n) (b ∷ bs) =
    let a = size_first b (below n bs) in
    let c = size_first b bs in
    let ih = size_below n bs in omega arith

-- a set that has as many members as it may hold has each row
pub whole_set : (set : List Bool) → size set ≡ length set → IsWhole set
whole_set [] all zero l = absurd (omega arith)
whole_set [] all (suc row) l = absurd (omega arith)
whole_set (true ∷ bs) all zero l = refl
whole_set (true ∷ bs) all (suc row) l = let first = size_first true bs in whole_set bs (omega arith) row (omega arith)
whole_set (false ∷ bs) all row l =
    absurd (let first = size_first false bs in let most = count_by-le-length (λ (member : Bool). member) bs in omega arith)

pub whole_tested : (set : List Bool) (n m : ℕ) → n ≡ size set → m ≡ length set → (n == m) ≡ true → IsWhole set
whole_tested set n m n_is m_is same =
    let e : n ≡ m = grind (arith) in
    whole_set set (sym n_is ∙ e ∙ m_is)
