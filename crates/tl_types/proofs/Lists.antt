-- Lists: one more numbered item, the item at a place changed, ids of open rows; and tests joined by `&&`.
use Rattle.std.proofs.Common.{◌≡◌, ℕ, zero, suc, ◌+◌, ◌<◌, Bool, true, false, ◌&&◌, List, [], ◌∷◌, ◌++◌, length, map, take, set, get_or, slice_get, Option, Some, refl, ap, ◌∙◌, arith, All}
use Rattle.std.specs.List.{enumerate_from, list_all}
use Rattle.std.proofs.lemmas.List.Sums.{AllPass-from_list_all}
use Rattle.tl_types.specs.Plain as plain
use Rattle.tl_types.specs.History.{at_place, is_open_at}

-- TESTS

pub and_left : (a b : Bool) → (a && b) ≡ true → a ≡ true
and_left true b h = refl
and_left false b h = h

pub and_right : (a b : Bool) → (a && b) ≡ true → b ≡ true
and_right true b h = h
and_right false b h = absurd cc

pub and_both : (a b : Bool) → a ≡ true → b ≡ true → (a && b) ≡ true
and_both a b h k = ap (λ t. t && b) h ∙ k

-- NUMBERED ITEMS

pub enumerate_from-append : {X : Type 0} (n : ℕ) (xs : List X) (x : X) → enumerate_from n (xs ++ x ∷ []) ≡ enumerate_from n xs ++ (n + length xs, x) ∷ []
enumerate_from-append n [] x = let e : n + 0 ≡ n = omega arith in rw e refl
enumerate_from-append n (y ∷ xs) x =
    let e : (n + 1) + length xs ≡ n + length (y ∷ xs) = omega arith in
    ap (λ ys. (n, y) ∷ ys) (enumerate_from-append (n + 1) xs x ∙ ap (λ m. enumerate_from (n + 1) xs ++ (m, x) ∷ []) e)

pub enumerate_from-take : {X : Type 0} (n : ℕ) (xs : List X) (i : ℕ) (x : X) → i < length xs → x ≡ get_or xs i x → enumerate_from n (take (i + 1) xs) ≡ enumerate_from n (take i xs) ++ (n + i, x) ∷ []
enumerate_from-take n [] i x h e = absurd (omega arith)
enumerate_from-take n (y ∷ xs) zero x h e = let k : n + 0 ≡ n = omega arith in rw (k, e) refl
enumerate_from-take n (y ∷ xs) (suc i) x h e =
    let k : (n + 1) + i ≡ n + suc i = omega arith in
    let s : suc i + 1 ≡ suc (i + 1) = omega arith in
    ap (λ m. enumerate_from n (take m (y ∷ xs))) s ∙ ap (λ ys. (n, y) ∷ ys) (enumerate_from-take (n + 1) xs i x (omega arith) e ∙ ap (λ m. enumerate_from (n + 1) (take i xs) ++ (m, x) ∷ []) k)

-- one item more of a list, numbered from 0
pub enumerate-take : {X : Type 0} (xs : List X) (i : ℕ) (x : X) → i < length xs → x ≡ get_or xs i x → enumerate_from 0 (take (i + 1) xs) ≡ enumerate_from 0 (take i xs) ++ (i, x) ∷ []
enumerate-take xs i x h e = let k : 0 + i ≡ i = omega arith in rw (enumerate_from-take 0 xs i x h e, k) refl

-- THE ITEM AT A PLACE

pub at_place-set : {X : Type 0} → (xs : List X) (i : ℕ) (f : X → X) (d : X) → i < length xs → at_place i f xs ≡ set xs i (f (get_or xs i d))
at_place-set [] i f d h = absurd (omega arith)
at_place-set (x ∷ xs) zero f d h = refl
at_place-set (x ∷ xs) (suc i) f d h = ap (λ t. x ∷ t) (at_place-set xs i f d (omega arith))

pub length-at_place : {X : Type 0} → (i : ℕ) (f : X → X) (xs : List X) → length (at_place i f xs) ≡ length xs
length-at_place i f [] = refl
length-at_place zero f (x ∷ xs) = refl
length-at_place (suc i) f (x ∷ xs) = ap suc (length-at_place i f xs)

-- what does not see a change does not see it at a place
pub get-at_place-unseen : {X Y : Type 0} (g : Option X → Y) (f : X → X) → ((x : X) → g (Some (f x)) ≡ g (Some x)) → (xs : List X) (i t : ℕ) → g (slice_get (at_place i f xs) t) ≡ g (slice_get xs t)
get-at_place-unseen g f h [] i t = refl
get-at_place-unseen g f h (x ∷ xs) zero zero = h x
get-at_place-unseen g f h (x ∷ xs) zero (suc t) = refl
get-at_place-unseen g f h (x ∷ xs) (suc i) zero = refl
get-at_place-unseen g f h (x ∷ xs) (suc i) (suc t) = get-at_place-unseen g f h xs i t

pub map-at_place-unseen : {X Y : Type 0} (g : X → Y) (f : X → X) → ((x : X) → g (f x) ≡ g x) → (xs : List X) (i : ℕ) → map g (at_place i f xs) ≡ map g xs
map-at_place-unseen g f h [] i = refl
map-at_place-unseen g f h (x ∷ xs) zero = ap (λ y. y ∷ map g xs) (h x)
map-at_place-unseen g f h (x ∷ xs) (suc i) = ap (λ ys. g x ∷ ys) (map-at_place-unseen g f h xs i)

-- OPEN ROWS

pub open_within : (rows : List plain.Row) (id : ℕ) → is_open_at rows id ≡ true → id < length rows
open_within [] id h = absurd (cc)
open_within (r ∷ rows) zero h = omega arith
open_within (r ∷ rows) (suc id) h = let l = open_within rows id h in omega arith

pub open_ids_within : (rows : List plain.Row) (ids : List ℕ) → list_all (is_open_at rows) ids ≡ true → All (λ id. id < length rows) ids
open_ids_within rows ids h = λ k d l. open_within rows (get_or ids k d) (AllPass-from_list_all (is_open_at rows) ids h k d l)
