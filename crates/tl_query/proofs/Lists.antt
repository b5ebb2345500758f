-- The laws of lists whose items are separated by a terminal.
use Rattle.std.proofs.Common.{◌≡◌, ℕ, ◌≤◌, zero, suc, Bool, true, false, cond, List, [], ◌∷◌, ◌++◌, length, Option, Some, None, Result, Ok, Err, IfOk, refl, ◌∙◌, ap, subst, append_assoc, append-nil, arith}
use Rattle.std.specs.List.{AllByRecursion}
use Rattle.tl_query.specs.declared.terminals.Terminal.{Terminal}
use Rattle.tl_query.specs.declared.tokens.Placed.{Placed}
use Rattle.tl_query.specs.declared.ast.Statement.{Statement}
use Rattle.tl_query.specs.Grammar.{Part, terminal, Fits, each_after, separated}
use Rattle.tl_query.specs.Reading.{◌>>=◌, is_fixed, after, take_at, where_some, with_first, up_to, further, several}
use Rattle.tl_query.proofs.Laws.{At, Good, good_by, good_at, pass_end, peek_good, peek_less_good}

-- reading one thing
abbrev pub Reads : Type 0 → Type 0
Reads A = List Placed → Result (A × List Placed) (Option ℕ)

-- what is left is no more than there was
abbrev pub Shrinks : {A : Type 0} → Reads A → Type 0
Shrinks one = (ts : List Placed) → IfOk (one ts) (λ x. length x.1 ≤ length ts)

-- The law of a reader whose values pass a test: where what follows each value is read right, so is the
-- reader and what follows it.
abbrev pub Law : {A : Type 0} → (A → Type 0) → Reads A → (A → List Part) → Type 0
Law {A} Q one parts = (n : ℕ) (prefix : List Part) (g : A × List Placed → Result Statement (Option ℕ)) → ((x : A) → Q x → Good n (prefix ++ parts x) (λ ts. g (x, ts))) → Good n prefix (λ ts. one ts >>= g)

-- one reading after another, grouped the other way
pub regroup : {A B C : Type 0} (r : Result A (Option ℕ)) (f : A → Result B (Option ℕ)) (g : B → Result C (Option ℕ)) → (r >>= f) >>= g ≡ r >>= (λ x. f x >>= g)
regroup (Ok x) f g = refl
regroup (Err e) f g = refl

-- a choice, and what follows it
pub where_then : {A B C : Type 0} (o : Option A) (x : Result B (Option ℕ)) (f : A → Result B (Option ℕ)) (g : B → Result C (Option ℕ)) → where_some o x f >>= g ≡ where_some o (x >>= g) (λ a. f a >>= g)
where_then None x f g = refl
where_then (Some a) x f g = refl

first_then : {A C : Type 0} (x : A) (r : Result (List A × List Placed) (Option ℕ)) (g : List A × List Placed → Result C (Option ℕ)) → with_first x r >>= g ≡ r >>= (λ y. g (x ∷ y.0, y.1))
first_then x (Ok y) g = refl
first_then x (Err e) g = refl

-- a thing before those after it, and what follows them
first_and : {A : Type 0} (r : Result (A × List Placed) (Option ℕ)) (more : Reads (List A)) (g : List A × List Placed → Result Statement (Option ℕ)) → (r >>= λ x. with_first x.0 (more x.1)) >>= g ≡ r >>= λ x. more x.1 >>= λ y. g (x.0 ∷ y.0, y.1)
first_and (Ok x) more g = first_then x.0 (more x.1) g
first_and (Err e) more g = refl

choice_and : {A : Type 0} (ts : List Placed) (o : Option (List Placed)) (one : Reads A) (more : Reads (List A)) (g : List A × List Placed → Result Statement (Option ℕ)) → where_some o (Ok ([], ts)) (λ rest. one rest >>= λ x. with_first x.0 (more x.1)) >>= g ≡ where_some o (g ([], ts)) (λ rest. one rest >>= λ x. more x.1 >>= λ y. g (x.0 ∷ y.0, y.1))
choice_and ts None one more g = refl
choice_and ts (Some rest) one more g = first_and (one rest) more g

after_by : (b : Bool) (ts rest : List Placed) → cond b (Some ts) None ≡ Some rest → ts ≡ rest
after_by true ts rest e = cc
after_by false ts rest e = absurd (cc)

pub after_shorter : (m : Terminal) (ts rest : List Placed) → after m ts ≡ Some rest → length ts ≡ suc (length rest)
unfolding after
after_shorter m [] rest e = absurd (cc)
after_shorter m (p ∷ ts) rest e = ap (λ (y : List Placed). suc (length y)) (after_by (is_fixed m p.token) ts rest e)

same_then : {A B : Type 0} (r : Result (A × List Placed) (Option ℕ)) (n : ℕ) (f g : A × List Placed → Result B (Option ℕ)) → IfOk r (λ x. length x.1 ≤ n) → ((x : A × List Placed) → length x.1 ≤ n → f x ≡ g x) → r >>= f ≡ r >>= g
same_then (Ok x) n f g h k = k x h
same_then (Err e) n f g h k = refl

same_choice : {A : Type 0} (m : Terminal) (ts : List Placed) (one : Reads A) → Shrinks one → (n : ℕ) (f g : Reads (List A)) → length ts ≤ suc n → ((y : List Placed) → length y ≤ n → f y ≡ g y) → (o : Option (List Placed)) → after m ts ≡ o
    → where_some o (Ok ([], ts)) (λ rest. one rest >>= λ x. with_first x.0 (f x.1)) ≡ where_some o (Ok ([], ts)) (λ rest. one rest >>= λ x. with_first x.0 (g x.1))
same_choice m ts one shr n f g few same None e = refl
same_choice m ts one shr n f g few same (Some rest) e =
    let l : length ts ≡ suc (length rest) = after_shorter m ts rest e in
    same_then (one rest) (length rest) (λ x. with_first x.0 (f x.1)) (λ x. with_first x.0 (g x.1)) (shr rest) (λ x short. ap (with_first x.0) (same x.1 (omega arith)))

-- there is room for as many things as tokens
enough : {A : Type 0} (m : Terminal) (one : Reads A) → Shrinks one → (a b : ℕ) (ts : List Placed) → length ts ≤ a → length ts ≤ b → up_to m one a ts ≡ up_to m one b ts
unfolding up_to after
enough m one shr zero zero ts h k = refl
enough m one shr zero (suc b) [] h k = refl
enough m one shr zero (suc b) (p ∷ ts) h k = absurd (omega arith)
enough m one shr (suc a) zero [] h k = refl
enough m one shr (suc a) zero (p ∷ ts) h k = absurd (omega arith)
enough m one shr (suc a) (suc b) [] h k = refl
enough m one shr (suc a) (suc b) (p ∷ ts) h k = same_choice m (p ∷ ts) one shr (length ts) (up_to m one a) (up_to m one b) (omega arith) (λ y short. enough m one shr a b y (omega arith) (omega arith)) (after m (p ∷ ts)) refl

-- how things after terminals are read
pub further_is : {A : Type 0} (m : Terminal) (one : Reads A) → Shrinks one → (ts : List Placed) → further m one ts ≡ where_some (after m ts) (Ok ([], ts)) (λ rest. one rest >>= λ x. with_first x.0 (further m one x.1))
unfolding up_to after
further_is m one shr [] = refl
further_is m one shr (p ∷ ts) = same_choice m (p ∷ ts) one shr (length ts) (up_to m one (length ts)) (further m one) (omega arith) (λ y short. enough m one shr (length ts) (length y) y short (omega arith)) (after m (p ∷ ts)) refl

-- a bound that is less
good_less : (k n : ℕ) (parts : List Part) (f : List Placed → Result Statement (Option ℕ)) → k ≤ n → Good n parts f → Good k parts f
good_less k n parts f less h = λ c fits ts few. h c fits ts (omega arith)

none_good_at : (parts : List Part) (f g : List Placed → Result Statement (Option ℕ)) → f [] ≡ g [] → Good 0 parts g → (c : List Placed) → Fits parts c → (ts : List Placed) → length ts ≤ 0 → At c f ts
none_good_at parts f g e h c fits [] few = pass_end c f g e (h c fits [] few)
none_good_at parts f g e h c fits (p ∷ ts) few = absurd (omega arith)

none_good : (parts : List Part) (f g : List Placed → Result Statement (Option ℕ)) → f [] ≡ g [] → Good 0 parts g → Good 0 parts f
none_good parts f g e h = none_good_at parts f g e h

further_good : {A : Type 0} (Q : A → Type 0) (m : Terminal) (one : Reads A) (parts : A → List Part) → Law Q one parts → Shrinks one → (n : ℕ) (prefix : List Part) (g : List A × List Placed → Result Statement (Option ℕ)) → ((xs : List A) → AllByRecursion Q xs → Good n (prefix ++ each_after m parts xs) (λ ts. g (xs, ts))) → Good n prefix (λ ts. further m one ts >>= g)
unfolding up_to
further_good Q m one parts law shr zero prefix g h = none_good prefix (λ ts. further m one ts >>= g) (λ ts. g ([], ts)) refl (good_at 0 (prefix ++ []) prefix (λ ts. g ([], ts)) (append-nil prefix) (h [] tt))
further_good Q m one parts law shr (suc n) prefix g h =
    peek_less_good n (suc n) prefix m (λ ts. further m one ts >>= g) (λ ts. g ([], ts)) (λ rest. one rest >>= λ x. further m one x.1 >>= λ y. g (x.0 ∷ y.0, y.1))
    (λ ts. ap (λ r. r >>= g) (further_is m one shr ts) ∙ choice_and ts (after m ts) one (further m one) g) (omega arith)
    (law n (prefix ++ (terminal m ∷ [])) (λ x. further m one x.1 >>= λ y. g (x.0 ∷ y.0, y.1)) (λ x q.
    further_good Q m one parts law shr n ((prefix ++ (terminal m ∷ [])) ++ parts x) (λ y. g (x ∷ y.0, y.1)) (λ xs qs.
    good_at n (prefix ++ each_after m parts (x ∷ xs)) (((prefix ++ (terminal m ∷ [])) ++ parts x) ++ each_after m parts xs) (λ ts. g (x ∷ xs, ts)) (simp append_assoc) (good_less n (suc n) _ _ (omega arith) (h (x ∷ xs) (q, qs))))))
    (good_at (suc n) (prefix ++ []) prefix (λ ts. g ([], ts)) (append-nil prefix) (h [] tt))

-- one or more things, separated by a terminal
pub several_good : {A : Type 0} (Q : A → Type 0) (m : Terminal) (one : Reads A) (parts : A → List Part) → Law Q one parts → Shrinks one → Law (λ xs. (1 ≤ length xs) × AllByRecursion Q xs) (several m one) (separated m parts)
unfolding several
several_good Q m one parts law shr n prefix g h =
    good_by n prefix (λ ts. several m one ts >>= g) (λ ts. one ts >>= λ x. further m one x.1 >>= λ y. g (x.0 ∷ y.0, y.1)) (λ ts. first_and (one ts) (further m one) g)
    (law n prefix (λ x. further m one x.1 >>= λ y. g (x.0 ∷ y.0, y.1)) (λ x q.
    further_good Q m one parts law shr n (prefix ++ parts x) (λ y. g (x ∷ y.0, y.1)) (λ xs qs.
    good_at n (prefix ++ separated m parts (x ∷ xs)) ((prefix ++ parts x) ++ each_after m parts xs) (λ ts. g (x ∷ xs, ts)) (simp append_assoc) (h (x ∷ xs) (omega arith, (q, qs))))))

-- up to so many things, each after a terminal
pub up_to_good : {A : Type 0} (Q : A → Type 0) (m : Terminal) (one : Reads A) (parts : A → List Part) → Law Q one parts → (room n : ℕ) (prefix : List Part) (g : List A × List Placed → Result Statement (Option ℕ)) → ((xs : List A) → length xs ≤ room → Good n (prefix ++ each_after m parts xs) (λ ts. g (xs, ts))) → Good n prefix (λ ts. up_to m one room ts >>= g)
unfolding up_to
up_to_good Q m one parts law zero n prefix g h = good_at n (prefix ++ []) prefix (λ ts. g ([], ts)) (append-nil prefix) (h [] (omega arith))
up_to_good Q m one parts law (suc room) n prefix g h =
    peek_good n prefix m (λ ts. up_to m one (suc room) ts >>= g) (λ ts. g ([], ts)) (λ rest. one rest >>= λ x. up_to m one room x.1 >>= λ y. g (x.0 ∷ y.0, y.1))
    (λ ts. choice_and ts (after m ts) one (up_to m one room) g)
    (law n (prefix ++ (terminal m ∷ [])) (λ x. up_to m one room x.1 >>= λ y. g (x.0 ∷ y.0, y.1)) (λ x q.
    up_to_good Q m one parts law room n ((prefix ++ (terminal m ∷ [])) ++ parts x) (λ y. g (x ∷ y.0, y.1)) (λ xs few.
    good_at n (prefix ++ each_after m parts (x ∷ xs)) (((prefix ++ (terminal m ∷ [])) ++ parts x) ++ each_after m parts xs) (λ ts. g (x ∷ xs, ts)) (simp append_assoc) (h (x ∷ xs) (omega arith)))))
    (good_at n (prefix ++ []) prefix (λ ts. g ([], ts)) (append-nil prefix) (h [] (omega arith)))

-- a first thing, and up to so many after terminals
pub first_good : {A : Type 0} (Q : A → Type 0) (m : Terminal) (one : Reads A) (parts : A → List Part) → Law Q one parts → (room n : ℕ) (prefix : List Part) (g : List A × List Placed → Result Statement (Option ℕ)) → ((xs : List A) → 1 ≤ length xs → length xs ≤ suc room → Good n (prefix ++ separated m parts xs) (λ ts. g (xs, ts))) → Good n prefix (λ ts. (one ts >>= λ x. with_first x.0 (up_to m one room x.1)) >>= g)
first_good Q m one parts law room n prefix g h =
    good_by n prefix (λ ts. (one ts >>= λ x. with_first x.0 (up_to m one room x.1)) >>= g) (λ ts. one ts >>= λ x. up_to m one room x.1 >>= λ y. g (x.0 ∷ y.0, y.1)) (λ ts. first_and (one ts) (up_to m one room) g)
    (law n prefix (λ x. up_to m one room x.1 >>= λ y. g (x.0 ∷ y.0, y.1)) (λ x q.
    up_to_good Q m one parts law room n (prefix ++ parts x) (λ y. g (x ∷ y.0, y.1)) (λ xs few.
    good_at n (prefix ++ separated m parts (x ∷ xs)) ((prefix ++ parts x) ++ each_after m parts xs) (λ ts. g (x ∷ xs, ts)) (simp append_assoc) (h (x ∷ xs) (omega arith) (omega arith)))))

-- what is left after readings one after another
pub ok_then : {A B : Type 0} (P : A → Type 0) (Q : B → Type 0) (r : Result A (Option ℕ)) (f : A → Result B (Option ℕ)) → IfOk r P → ((x : A) → P x → IfOk (f x) Q) → IfOk (r >>= f) Q
ok_then P Q (Ok x) f h k = k x h
ok_then P Q (Err e) f h k = tt

taken_shrinks : {A : Type 0} (o : Option A) (at : ℕ) (ts : List Placed) (n : ℕ) → length ts ≤ n → IfOk {T = A × List Placed} {E = Option ℕ} (where_some o (Err (Some at)) (λ x. Ok (x, ts))) (λ x. length x.1 ≤ n)
taken_shrinks None at ts n h = tt
taken_shrinks (Some x) at ts n h = h

pub take_shrinks : {A : Type 0} (take : Placed → Option A) → Shrinks (take_at take)
unfolding take_at
take_shrinks take [] = tt
take_shrinks take (p ∷ ts) = taken_shrinks (take p) p.at ts (suc (length ts)) (omega arith)

choice_shrinks : {A : Type 0} (m : Terminal) (ts : List Placed) (one : Reads A) → Shrinks one → (more : Reads (List A)) → Shrinks more → (o : Option (List Placed)) → after m ts ≡ o → IfOk (where_some o (Ok ([], ts)) (λ rest. one rest >>= λ x. with_first x.0 (more x.1))) (λ x. length x.1 ≤ length ts)
choice_shrinks m ts one shr more mshr None e = omega arith
choice_shrinks m ts one shr more mshr (Some rest) e =
    let l : length ts ≡ suc (length rest) = after_shorter m ts rest e in
    ok_then (λ x. length x.1 ≤ length rest) (λ x. length x.1 ≤ length ts) (one rest) (λ x. with_first x.0 (more x.1)) (shr rest) (λ x short.
    ok_then (λ y. length y.1 ≤ length x.1) (λ y. length y.1 ≤ length ts) (more x.1) (λ y. Ok (x.0 ∷ y.0, y.1)) (mshr x.1) (λ y shorter. omega arith))

up_to_shrinks : {A : Type 0} (m : Terminal) (one : Reads A) → Shrinks one → (room : ℕ) → Shrinks (up_to m one room)
unfolding up_to
up_to_shrinks m one shr zero ts = omega arith
up_to_shrinks m one shr (suc room) ts = choice_shrinks m ts one shr (up_to m one room) (up_to_shrinks m one shr room) (after m ts) refl

pub several_shrinks : {A : Type 0} (m : Terminal) (one : Reads A) → Shrinks one → Shrinks (several m one)
unfolding several
several_shrinks m one shr ts =
    ok_then (λ x. length x.1 ≤ length ts) (λ x. length x.1 ≤ length ts) (one ts) (λ x. with_first x.0 (further m one x.1)) (shr ts) (λ x short.
    ok_then (λ y. length y.1 ≤ length x.1) (λ y. length y.1 ≤ length ts) (further m one x.1) (λ y. Ok (x.0 ∷ y.0, y.1)) (up_to_shrinks m one shr (length x.1) x.1) (λ y shorter. omega arith))

-- what a reading left
pub shrunk : {A : Type 0} (one : Reads A) → Shrinks one → (ts behind : List Placed) (x : A) → one ts ≡ Ok (x, behind) → length behind ≤ length ts
shrunk one shr ts behind x e = subst (λ r. IfOk r (λ x. length x.1 ≤ length ts)) e (shr ts)
