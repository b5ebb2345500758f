-- What a walk over two lists of rows finds, and what its chains hold.
use Rattle.std.proofs.Common.{◌≡◌, ℕ, zero, suc, ℤ, ◌+◌, ◌≤◌, ◌<◌, ◌≤ℤ◌, ◌<ℤ◌, Bool, true, false, ◌&&◌, cond, ◌==◌, int_le, int_lt, nat_lt, List, [], ◌∷◌, ◌++◌, length, map, reverse, Option, Some, None, refl, sym, ap, ◌∙◌, subst, arith, sum_by, slice_set, drop, take, drop-cons, get_or, replicate}
use Rattle.std.proofs.lemmas.Int.{ints, clamps}
use Rattle.std.proofs.lemmas.List.{reverse-append, get_or-set_same, get_or-set_other, length-set, length-replicate, take_more, take_all}
use Rattle.std.proofs.lemmas.List.Sums.{sum_by-append}
use Rattle.std.specs.Int.{int_min, int_max}
use Rattle.std.specs.List.{filter, filter_map, AllByRecursion}
use Rattle.tl_types.specs.declared.runs.Pair.{Pair}
use Rattle.tl_join.specs.declared.entries.Entry.{Entry}
use Rattle.tl_join.specs.Sweep.{AreSame, pair_at, stands_at, has_code, made, grid, IsEntry, AreBy, Rises, AreBelow, IsNextOf}
use Rattle.tl_join.specs.Chains.{nobody, key_slot, rows_from, chain_of, AreLinked, AreTaken, AreMatched, with_front, met, found, back}
use Rattle.tl_join.proofs.ChainLemmas.{enough, same_first}
use Rattle.tl_join.proofs.PairLemmas.{grid_same}

-- THE PAIRS OF ONE MORE ROW

-- a pair as a row makes it that begins when the other one has begun
abbrev pub made_by : ℤ → Bool → Entry → Entry → Option Pair
made_by first turned e o = cond ((o.code == e.code) && (int_le first e.begin && int_lt e.begin o.end)) (Some (pair_at turned e o)) None

early_none : (first : ℤ) (turned : Bool) (e : Entry) (os : List Entry) → int_le first e.begin ≡ false → filter_map (made_by first turned e) os ≡ []
early_none first turned e [] h = refl
early_none first turned e (o ∷ os) h = by_test (o.code == e.code) refl (early_none first turned e os h) where
  by_test : (t : Bool) → (o.code == e.code) ≡ t → filter_map (made_by first turned e) os ≡ [] → filter_map (made_by first turned e) (o ∷ os) ≡ []
  by_test true a later = rw (a, h) later
  by_test false a later = rw a later

late_all : (first : ℤ) (turned : Bool) (e : Entry) (os : List Entry) → int_le first e.begin ≡ true → filter_map (made_by first turned e) os ≡ map (pair_at turned e) (filter (stands_at e.begin) (filter (has_code e.code) os))
late_all first turned e [] h = refl
late_all first turned e (o ∷ os) h = by_tests (o.code == e.code) refl (int_lt e.begin o.end) refl (late_all first turned e os h) where
  by_tests : (s : Bool) → (o.code == e.code) ≡ s → (t : Bool) → int_lt e.begin o.end ≡ t → filter_map (made_by first turned e) os ≡ map (pair_at turned e) (filter (stands_at e.begin) (filter (has_code e.code) os)) → filter_map (made_by first turned e) (o ∷ os) ≡ map (pair_at turned e) (filter (stands_at e.begin) (filter (has_code e.code) (o ∷ os)))
  by_tests true a true b later = rw (a, h, b) (ap (λ ps. pair_at turned e o ∷ ps) later)
  by_tests true a false b later = rw (a, h, b) later
  by_tests false a t b later = rw a later

by_filters : (first : ℤ) (turned : Bool) (e : Entry) (os : List Entry) → filter_map (made_by first turned e) os ≡ met first turned e (filter (has_code e.code) os)
by_filters first turned e os = by_test (int_le first e.begin) refl where
  by_test : (t : Bool) → int_le first e.begin ≡ t → filter_map (made_by first turned e) os ≡ cond (int_le first e.begin) (map (pair_at turned e) (filter (stands_at e.begin) (filter (has_code e.code) os))) []
  by_test true a = rw a (late_all first turned e os a)
  by_test false a = rw a (early_none first turned e os a)

-- the later of the two is the left one, or the right one
left_later : (first : ℤ) (l r : Entry) → l.begin <ℤ l.end → r.begin ≤ℤ l.begin → made first l r ≡ made_by first false l r
left_later first l r h k =
    let x : int_max l.begin r.begin ≡ l.begin = grind (arith, ints, clamps) in
    let y : int_lt l.begin (int_min l.end r.end) ≡ int_lt l.begin r.end = grind (arith, ints, clamps) in
    let z : (l.code == r.code) ≡ (r.code == l.code) = grind (arith) in
    rw (x, y, z) refl

right_later : (first : ℤ) (l r : Entry) → r.begin <ℤ r.end → l.begin ≤ℤ r.begin → made first l r ≡ made_by first true r l
right_later first l r h k =
    let x : int_max l.begin r.begin ≡ r.begin = grind (arith, ints, clamps) in
    let y : int_lt r.begin (int_min l.end r.end) ≡ int_lt r.begin l.end = grind (arith, ints, clamps) in
    let z : int_min l.end r.end ≡ int_min r.end l.end = grind (arith, ints, clamps) in
    rw (x, y, z) refl

row_is : (first : ℤ) (l : Entry) (rs : List Entry) → l.begin <ℤ l.end → AreBy l.begin rs → filter_map (made first l) rs ≡ filter_map (made_by first false l) rs
row_is first l [] h by = refl
row_is first l (r ∷ rs) h by = rw (left_later first l r h by.0, row_is first l rs h by.1) refl

col_is : (first : ℤ) (r : Entry) (ls : List Entry) → r.begin <ℤ r.end → AreBy r.begin ls → filter_map (λ l. made first l r) ls ≡ filter_map (made_by first true r) ls
col_is first r [] h by = refl
col_is first r (l ∷ ls) h by = rw (right_later first l r h by.0, col_is first r ls h by.1) refl

one_more : (t : Pair → ℕ) (first : ℤ) (l r : Entry) (ps : List Pair) (ls : List Entry) → sum_by t (filter_map (made first l) (r ∷ [])) + sum_by t (filter_map (λ l. made first l r) ls) ≡ sum_by t (filter_map (λ l. made first l r) (l ∷ ls))
one_more t first l r ps ls = by_option (made first l r) refl where
  by_option : (o : Option Pair) → made first l r ≡ o → sum_by t (filter_map (made first l) (r ∷ [])) + sum_by t (filter_map (λ l. made first l r) ls) ≡ sum_by t (filter_map (λ l. made first l r) (l ∷ ls))
  by_option None e = rw e (omega arith)
  by_option (Some p) e = rw e (sym (sum_by-append t (p ∷ []) (filter_map (λ l. made first l r) ls)))

first_row : (t : Pair → ℕ) (first : ℤ) (l r : Entry) (rs : List Entry) → sum_by t (filter_map (made first l) (r ∷ rs)) ≡ sum_by t (filter_map (made first l) (r ∷ [])) + sum_by t (filter_map (made first l) rs)
first_row t first l r rs = by_option (made first l r) refl where
  by_option : (o : Option Pair) → made first l r ≡ o → sum_by t (filter_map (made first l) (r ∷ rs)) ≡ sum_by t (filter_map (made first l) (r ∷ [])) + sum_by t (filter_map (made first l) rs)
  by_option None e = rw e (omega arith)
  by_option (Some p) e = rw e (sum_by-append t (p ∷ []) (filter_map (made first l) rs))

more_right : (t : Pair → ℕ) (first : ℤ) (ls rs : List Entry) (r : Entry) → sum_by t (grid first ls (r ∷ rs)) ≡ sum_by t (filter_map (λ l. made first l r) ls) + sum_by t (grid first ls rs)
more_right t first [] rs r = refl
more_right t first (l ∷ ls) rs r =
    let a = sum_by-append t (filter_map (made first l) (r ∷ rs)) (grid first ls (r ∷ rs)) in
    let b = first_row t first l r rs in
    let c = sum_by-append t (filter_map (made first l) rs) (grid first ls rs) in
    let d = one_more t first l r [] ls in
    let e = more_right t first ls rs r in
    omega (arith, a, b, c, d, e)

-- WHAT CHAINS HOLD

still : (t m : ℤ) (es : List Entry) → m ≤ℤ t → filter (stands_at t) (filter (stands_at m) es) ≡ filter (stands_at t) es
still t m [] h = refl
still t m (e ∷ es) h = by_tests (int_lt m e.end) refl (int_lt t e.end) refl (still t m es h) where
  by_tests : (a : Bool) → int_lt m e.end ≡ a → (b : Bool) → int_lt t e.end ≡ b → filter (stands_at t) (filter (stands_at m) es) ≡ filter (stands_at t) es → filter (stands_at t) (filter (stands_at m) (e ∷ es)) ≡ filter (stands_at t) (e ∷ es)
  by_tests true p true q later = rw (p, q) (ap (λ os. e ∷ os) later)
  by_tests true p false q later = rw (p, q) later
  by_tests false p true q later = absurd (let x : int_lt m e.end ≡ true = grind (arith, ints) in cc)
  by_tests false p false q later = rw (p, q) later

-- the links of one side hold its first rows: for each key its chain has those that stand, at each moment by which all taken rows of both sides have begun
pub record Held (codes : ℕ) (rows : List Entry) (links : List ℕ) (i : ℕ) (others : List Entry) : Type 0 where
  pub size : length links ≡ key_slot (length rows) codes
  pub linked : AreLinked (length rows) links
  pub taken : AreTaken i links
  pub holds : (t : ℤ) (code : ℕ) → AreBy t (back i rows) → AreBy t others → code < codes → filter (stands_at t) (chain_of rows links code) ≡ filter (stands_at t) (filter (has_code code) (back i rows))

pub held_matched : (codes : ℕ) (first : ℤ) (rows : List Entry) (links new : List ℕ) (i : ℕ) (others : List Entry) (e : Entry) → Held codes rows links i others → AreMatched rows first e links new → Held codes rows new i (e ∷ others)
held_matched codes first rows links new i others e h m = by_test (int_le first e.begin) refl where
  by_test : (b : Bool) → int_le first e.begin ≡ b → Held codes rows new i (e ∷ others)
  by_test false k =
      rw (m.1 k) (record { size = h.size; linked = h.linked; taken = h.taken; holds = λ t. λ code. λ own. λ other. λ inside. h.holds t code own other.1 inside })
  by_test true k =
      let kept = m.0 k in
      record {
        size = kept.size ∙ h.size;
        linked = kept.linked;
        taken = kept.taken i h.taken;
        holds = λ t. λ code. λ own. λ other. λ inside.
            sym (still t e.begin (chain_of rows new code) other.0)
            ∙ ap (filter (stands_at t)) (kept.same (key_slot (length rows) code))
            ∙ still t e.begin (chain_of rows links code) other.0
            ∙ h.holds t code own other.1 inside;
      }

back_more : (i : ℕ) (rows : List Entry) (d : Entry) → i < length rows → back (i + 1) rows ≡ get_or rows i d ∷ back i rows
back_more i rows d h = ap reverse (take_more rows i d h) ∙ reverse-append (take i rows) (get_or rows i d ∷ [])

module _ (rows : List Entry) (links : List ℕ) (i code : ℕ) (inside : i < length rows) (l : AreLinked (length rows) links) (taken : AreTaken i links) (within : key_slot (length rows) code < length links) where
  abbrev key : ℕ
  key = key_slot (length rows) code

  abbrev put : List ℕ
  put = with_front (length rows) (i + 1) code links

  abbrev once : List ℕ
  once = slice_set links (i + 1) (get_or links key 0)

  at_key : get_or put key 0 ≡ i + 1
  at_key = get_or-set_same once key (i + 1) 0 (let s = length-set links (i + 1) (get_or links key 0) in omega (arith, s, within))

  at_slot : get_or put (i + 1) 0 ≡ get_or links key 0
  at_slot = get_or-set_other once key (i + 1) (i + 1) 0 (omega (arith, inside)) ∙ get_or-set_same links (i + 1) (get_or links key 0) 0 (omega (arith, inside, within))

  at_other : (x : ℕ) → (x == key) ≡ false → (x == i + 1) ≡ false → get_or put x 0 ≡ get_or links x 0
  at_other x a b = get_or-set_other once key x (i + 1) 0 (grind (arith)) ∙ get_or-set_other links (i + 1) x (get_or links key 0) 0 (grind (arith))

  at_low : (x : ℕ) → x ≤ i → get_or put x 0 ≡ get_or links x 0
  at_low x h = at_other x (let k : x < key = omega (arith, h, inside) in grind (arith)) (let k : x < i + 1 = omega (arith, h) in grind (arith))

  apart : (most at : ℕ) → at ≤ i → rows_from most rows put at ≡ rows_from most rows links at
  apart zero at h = refl
  apart (suc most) zero h = refl
  apart (suc most) (suc at) h =
      ap (λ x. get_or rows at nobody ∷ rows_from most rows put x) (at_low (suc at) h) ∙ ap (λ os. get_or rows at nobody ∷ os) (apart most (get_or links (suc at) 0) (taken (suc at)))

  put_taken : AreTaken (i + 1) put
  put_taken x = by_tests (x == key) refl (x == i + 1) refl (taken x) (taken key) where
    by_tests : (a : Bool) → (x == key) ≡ a → (b : Bool) → (x == i + 1) ≡ b → get_or links x 0 ≤ i → get_or links key 0 ≤ i → get_or put x 0 ≤ i + 1
    by_tests true a b c d e = let is : x ≡ key = grind (arith) in let f = ap (λ y. get_or put y 0) is ∙ at_key in omega (arith, f)
    by_tests false a true c d e = let is : x ≡ i + 1 = grind (arith) in let f = ap (λ y. get_or put y 0) is ∙ at_slot in omega (arith, f, e)
    by_tests false a false c d e = let f = at_other x a c in omega (arith, f, d)

  put_linked : AreLinked (length rows) put
  put_linked =
      record {
        inside = λ x. let a = put_taken x in omega (arith, a, inside);
        falls = λ at. λ h. by_test at h (suc at == i + 1) refl (l.falls at h) (taken key);
      } where
        by_test : (at : ℕ) → at < length rows → (b : Bool) → (suc at == i + 1) ≡ b → get_or links (suc at) 0 ≤ at → get_or links key 0 ≤ i → get_or put (suc at) 0 ≤ at
        by_test at h true c d e = let is : suc at ≡ i + 1 = grind (arith) in let f = ap (λ y. get_or put y 0) is ∙ at_slot in omega (arith, f, e, is)
        by_test at h false c d e = let f = at_other (suc at) (let k : suc at < key = omega (arith, h) in grind (arith)) c in omega (arith, f, d)

  put_size : length put ≡ length links
  put_size = length-set once key (i + 1) ∙ length-set links (i + 1) (get_or links key 0)

  -- the row is in front of its key's chain
  chain_put : chain_of rows put code ≡ get_or rows i nobody ∷ chain_of rows links code
  chain_put =
      let one : i + 1 ≡ suc i = omega arith in
      ap (rows_from (length rows) rows put) (at_key ∙ one)
      ∙ enough rows put put_linked (length rows) (suc (length rows)) (suc i) (omega (arith, inside)) (omega (arith, inside)) (omega (arith, inside))
      ∙ ap (λ x. get_or rows i nobody ∷ rows_from (length rows) rows put x) (ap (λ n. get_or put n 0) (sym one) ∙ at_slot)
      ∙ ap (λ os. get_or rows i nobody ∷ os) (apart (length rows) (get_or links key 0) (taken key))

  -- the other chains are as before
  chain_other : (other : ℕ) → (other == code) ≡ false → chain_of rows put other ≡ chain_of rows links other
  chain_other other h =
      ap (rows_from (length rows) rows put) (at_other (key_slot (length rows) other) (grind (arith)) (let k : i + 1 < key_slot (length rows) other = omega (arith, inside) in grind (arith)))
      ∙ apart (length rows) (get_or links (key_slot (length rows) other) 0) (taken (key_slot (length rows) other))

same_code : (e : Entry) → (e.code == e.code) ≡ true
same_code e = grind (arith)

code_first : (code : ℕ) (e : Entry) (es : List Entry) → has_code code e ≡ true → filter (has_code code) (e ∷ es) ≡ e ∷ filter (has_code code) es
code_first code e es h = rw h refl

code_not : (code : ℕ) (e : Entry) (es : List Entry) → has_code code e ≡ false → filter (has_code code) (e ∷ es) ≡ filter (has_code code) es
code_not code e es h = rw h refl

pub held_put : (codes : ℕ) (rows : List Entry) (links new : List ℕ) (i : ℕ) (others : List Entry) → i < length rows → (get_or rows i nobody).code < codes → Held codes rows links i others → new ≡ with_front (length rows) (i + 1) (get_or rows i nobody).code links → Held codes rows new (i + 1) others
held_put codes rows links new i others inside fits h is =
    let e = get_or rows i nobody in
    let within : key_slot (length rows) e.code < length links = (let s = h.size in omega (arith, s, fits)) in
    rw is (record {
      size = put_size rows links i e.code inside h.linked h.taken within ∙ h.size;
      linked = put_linked rows links i e.code inside h.linked h.taken within;
      taken = put_taken rows links i e.code inside h.linked h.taken within;
      holds = λ t. λ code. λ own. λ other. λ below.
          let more : back (i + 1) rows ≡ e ∷ back i rows = back_more i rows nobody inside in
          let split : AreBy t (e ∷ back i rows) = subst (AreBy t) more own in
          by_test t code (code == e.code) refl within (h.holds t code split.1 other below) ∙ ap (λ es. filter (stands_at t) (filter (has_code code) es)) (sym more);
    }) where
      by_test : (t : ℤ) (code : ℕ) (b : Bool) → (code == (get_or rows i nobody).code) ≡ b → key_slot (length rows) (get_or rows i nobody).code < length links → filter (stands_at t) (chain_of rows links code) ≡ filter (stands_at t) (filter (has_code code) (back i rows)) → filter (stands_at t) (chain_of rows (with_front (length rows) (i + 1) (get_or rows i nobody).code links) code) ≡ filter (stands_at t) (filter (has_code code) (get_or rows i nobody ∷ back i rows))
      by_test t code true k within before =
          let e = get_or rows i nobody in
          let here : code ≡ e.code = grind (arith) in
          let chain = ap (chain_of rows (with_front (length rows) (i + 1) e.code links)) here ∙ chain_put rows links i e.code inside h.linked h.taken within ∙ ap (λ c. e ∷ chain_of rows links c) (sym here) in
          let turned : has_code code e ≡ true = rw here (same_code e) in
          ap (filter (stands_at t)) chain ∙ same_first t e (chain_of rows links code) (filter (has_code code) (back i rows)) before ∙ ap (filter (stands_at t)) (sym (code_first code e (back i rows) turned))
      by_test t code false k within before =
          let e = get_or rows i nobody in
          let turned : has_code code e ≡ false = grind (arith) in
          ap (filter (stands_at t)) (chain_other rows links i e.code inside h.linked h.taken within code k) ∙ before ∙ ap (filter (stands_at t)) (sym (code_not code e (back i rows) turned))

sum_back : {X : Type 0} (f : X → ℕ) (xs : List X) → sum_by f (reverse xs) ≡ sum_by f xs
sum_back f [] = refl
sum_back f (x ∷ xs) =
    let a = ap (sum_by f) (reverse-append (x ∷ []) xs) ∙ sum_by-append f (reverse xs) (x ∷ []) in
    let b = sum_by-append f (x ∷ []) xs in
    let c = sum_back f xs in
    omega (arith, a, b, c)

-- THE WALK

chain_found : (codes : ℕ) (first : ℤ) (turned : Bool) (rows : List Entry) (links : List ℕ) (i : ℕ) (others : List Entry) (e : Entry) → e.code < codes → Held codes rows links i others → AreBy e.begin (back i rows) → AreBy e.begin others → met first turned e (chain_of rows links e.code) ≡ filter_map (made_by first turned e) (back i rows)
chain_found codes first turned rows links i others e c h own other =
    ap (λ os. cond (int_le first e.begin) (map (pair_at turned e) os) []) (h.holds e.begin e.code own other c) ∙ sym (by_filters first turned e (back i rows))

all_at : {X : Type 0} (P : X → Type 0) (xs : List X) (i : ℕ) (d : X) → i < length xs → AllByRecursion P xs → P (get_or xs i d)
all_at P [] i d h all = absurd (omega (arith, h))
all_at P (x ∷ xs) zero d h all = all.0
all_at P (x ∷ xs) (suc i) d h all = all_at P xs i d (omega arith) all.1

rises_front : (es : List Entry) (i : ℕ) (d : Entry) → i < length es → Rises es → AreBy (get_or es i d).begin (take i es)
rises_front [] i d h up = absurd (omega (arith, h))
rises_front (e ∷ es) zero d h up = tt
rises_front (e ∷ es) (suc i) d h up = (all_at (λ o. e.begin ≤ℤ o.begin) es i d (omega arith) up.0, rises_front es i d (omega arith) up.1)

rises_rest : (es : List Entry) (i : ℕ) (d : Entry) → i < length es → Rises es → AllByRecursion (λ o. (get_or es i d).begin ≤ℤ o.begin) (drop (suc i) es)
rises_rest [] i d h up = absurd (omega (arith, h))
rises_rest (e ∷ es) zero d h up = up.0
rises_rest (e ∷ es) (suc i) d h up = rises_rest es i d (omega arith) up.1

by_more : (t : ℤ) (es : List Entry) (e : Entry) → AreBy t es → e.begin ≤ℤ t → AreBy t (es ++ e ∷ [])
by_more t [] e by h = (h, tt)
by_more t (x ∷ es) e by h = (by.0, by_more t es e by.1 h)

by_back : (t : ℤ) (es : List Entry) → AreBy t es → AreBy t (reverse es)
by_back t [] h = tt
by_back t (e ∷ es) h = subst (AreBy t) (sym (reverse-append (e ∷ []) es)) (by_more t (reverse es) e (by_back t es h.1) h.0)

below_more : (taken rest : List Entry) (e : Entry) → AreBelow taken rest → AllByRecursion (λ o. e.begin ≤ℤ o.begin) rest → AreBelow (taken ++ e ∷ []) rest
below_more taken [] e below all = tt
below_more taken (o ∷ rest) e below all = (by_more o.begin taken e below.0 all.0, below_more taken rest e below.1 all.1)

at_least : (m n : ℤ) (es : List Entry) → m ≤ℤ n → AllByRecursion (λ (o : Entry). n ≤ℤ o.begin) es → AllByRecursion (λ (o : Entry). m ≤ℤ o.begin) es
at_least m n [] h all = tt
at_least m n (o ∷ es) h all = (let a = all.0 in omega (arith, ints, a, h), at_least m n es h all.1)

past : (n : ℕ) (es : List Entry) → length es ≤ n → drop n es ≡ []
past zero [] h = refl
past (suc n) [] h = refl
past zero (e ∷ es) h = absurd (omega (arith, h))
past (suc n) (e ∷ es) h = past n es (omega arith)

-- what is left of the other side begins not before the row that is next
rest_after : (es os : List Entry) (i j : ℕ) (d : Entry) → Rises os → IsNextOf es i os j → AllByRecursion (λ o. (get_or es i d).begin ≤ℤ o.begin) (drop j os)
rest_after es os i j d up next = by_test (nat_lt j (length os)) refl where
  by_test : (t : Bool) → nat_lt j (length os) ≡ t → AllByRecursion (λ o. (get_or es i d).begin ≤ℤ o.begin) (drop j os)
  by_test true h =
      let inside : j < length os = grind (arith) in
      let first = next.1 inside d in
      rw (drop-cons os j d inside) (first, at_least (get_or es i d).begin (get_or os j d).begin (drop (suc j) os) first (rises_rest os j d inside up))
  by_test false h =
      let outside : length os ≤ j = grind (arith) in
      rw (past j os outside) tt

abbrev NextSide : List Entry → List Entry → ℕ → ℕ → Entry → Type 0
NextSide es os i j e =
    (AreBy e.begin (back i es)) × (AreBy e.begin (back j os)) × (AreBelow (take j os) (drop (i + 1) es)) × (AreBelow (take (i + 1) es) (drop j os)) × (back (i + 1) es ≡ e ∷ back i es)

next_side : (es os : List Entry) (i j : ℕ) (d : Entry) → Rises es → Rises os → IsNextOf es i os j → AreBelow (take j os) (drop i es) → AreBelow (take i es) (drop j os) → NextSide es os i j (get_or es i d)
next_side es os i j d up others_up next below above =
    let e = get_or es i d in
    let here : drop i es ≡ e ∷ drop (suc i) es = drop-cons es i d next.0 in
    let split : AreBelow (take j os) (e ∷ drop (suc i) es) = subst (AreBelow (take j os)) here below in
    let more : take (i + 1) es ≡ take i es ++ e ∷ [] = take_more es i d next.0 in
    let one : i + 1 ≡ suc i = omega arith in
    let rest : AreBelow (take j os) (drop (i + 1) es) = subst (λ n. AreBelow (take j os) (drop n es)) (sym one) split.1 in
    let front : AreBelow (take (i + 1) es) (drop j os) = subst (λ ts. AreBelow ts (drop j os)) (sym more) (below_more (take i es) (drop j os) e above (rest_after es os i j d others_up next)) in
    (by_back e.begin (take i es) (rises_front es i d next.0 up), by_back e.begin (take j os) split.0, rest, front, back_more i es d next.0)

-- so many rows of both sides are taken, in order of time: what is out are their pairs, and the chains hold them
pub record Merging (codes : ℕ) (first : ℤ) (lefts rights : List Entry) (i j : ℕ) (left_links right_links : List ℕ) (pairs : List Pair) : Type 0 where
  pub same : AreSame pairs (grid first (back i lefts) (back j rights))
  pub left_held : Held codes lefts left_links i (back j rights)
  pub right_held : Held codes rights right_links j (back i lefts)
  pub left_next : AreBelow (take j rights) (drop i lefts)
  pub right_next : AreBelow (take i lefts) (drop j rights)

module _ (codes : ℕ) (first : ℤ) (lefts rights : List Entry) (i j : ℕ) (left_links right_links left_new right_new : List ℕ) (pairs more : List Pair) (m : Merging codes first lefts rights i j left_links right_links pairs) (left_up : Rises lefts) (right_up : Rises rights) where
  pub next_left : AllByRecursion (IsEntry codes) lefts → IsNextOf lefts i rights j → more ≡ pairs ++ found first false (get_or lefts i nobody) (chain_of rights right_links (get_or lefts i nobody).code) → AreMatched rights first (get_or lefts i nobody) right_links right_new → left_new ≡ with_front (length lefts) (i + 1) (get_or lefts i nobody).code left_links → Merging codes first lefts rights (i + 1) j left_new right_new more
  next_left all next found_is right_is left_is =
      let l = get_or lefts i nobody in
      let fact : IsEntry codes l = all_at (IsEntry codes) lefts i nobody next.0 all in
      let side = next_side lefts rights i j nobody left_up right_up next m.left_next m.right_next in
      record {
        same = λ t.
            let met_is = chain_found codes first false rights right_links j (back i lefts) l fact.1 m.right_held side.1 side.0 in
            let a = ap (sum_by t) found_is ∙ sum_by-append t pairs (found first false l (chain_of rights right_links l.code)) in
            let e = sum_back t (met first false l (chain_of rights right_links l.code)) ∙ ap (sum_by t) met_is in
            let b = ap (λ ls. sum_by t (grid first ls (back j rights))) side.4 ∙ sum_by-append t (filter_map (made first l) (back j rights)) (grid first (back i lefts) (back j rights)) in
            let d = ap (sum_by t) (row_is first l (back j rights) fact.0 side.1) in
            let c = m.same t in
            omega (arith, a, b, c, d, e);
        left_held = held_put codes lefts left_links left_new i (back j rights) next.0 fact.1 m.left_held left_is;
        right_held = rw side.4 (held_matched codes first rights right_links right_new j (back i lefts) l m.right_held right_is);
        left_next = side.2;
        right_next = side.3;
      }

  pub next_right : AllByRecursion (IsEntry codes) rights → IsNextOf rights j lefts i → more ≡ pairs ++ found first true (get_or rights j nobody) (chain_of lefts left_links (get_or rights j nobody).code) → AreMatched lefts first (get_or rights j nobody) left_links left_new → right_new ≡ with_front (length rights) (j + 1) (get_or rights j nobody).code right_links → Merging codes first lefts rights i (j + 1) left_new right_new more
  next_right all next found_is left_is right_is =
      let r = get_or rights j nobody in
      let fact : IsEntry codes r = all_at (IsEntry codes) rights j nobody next.0 all in
      let side = next_side rights lefts j i nobody right_up left_up next m.right_next m.left_next in
      record {
        same = λ t.
            let met_is = chain_found codes first true lefts left_links i (back j rights) r fact.1 m.left_held side.1 side.0 in
            let a = ap (sum_by t) found_is ∙ sum_by-append t pairs (found first true r (chain_of lefts left_links r.code)) in
            let e = sum_back t (met first true r (chain_of lefts left_links r.code)) ∙ ap (sum_by t) met_is in
            let b = ap (λ rs. sum_by t (grid first (back i lefts) rs)) side.4 ∙ more_right t first (back i lefts) (back j rights) r in
            let d = ap (sum_by t) (col_is first r (back i lefts) fact.0 side.1) in
            let c = m.same t in
            omega (arith, a, b, c, d, e);
        left_held = rw side.4 (held_matched codes first lefts left_links left_new i (back j rights) r m.left_held left_is);
        right_held = held_put codes rights right_links right_new j (back i lefts) next.0 fact.1 m.right_held right_is;
        left_next = side.3;
        right_next = side.2;
      }

none_below : (rest : List Entry) → AreBelow [] rest
none_below [] = tt
none_below (e ∷ rest) = (tt, none_below rest)

abbrev no_links : ℕ → List ℕ
no_links n = replicate n 0

zero_at : (n i : ℕ) → get_or (no_links n) i zero ≡ zero
zero_at zero i = refl
zero_at (suc n) zero = refl
zero_at (suc n) (suc i) = zero_at n i

none_from : (most : ℕ) (rows : List Entry) (links : List ℕ) (at : ℕ) → at ≡ 0 → rows_from most rows links at ≡ []
none_from zero rows links at h = refl
none_from (suc most) rows links zero h = refl
none_from (suc most) rows links (suc at) h = absurd (cc)

none_held : (codes : ℕ) (rows : List Entry) → Held codes rows (no_links (key_slot (length rows) codes)) 0 []
none_held codes rows =
    let n = key_slot (length rows) codes in
    record {
      size = length-replicate {A = ℕ} n 0;
      linked = record { inside = λ x. let e = zero_at n x in omega (arith, e); falls = λ at. λ h. let e = zero_at n (suc at) in omega (arith, e) };
      taken = λ x. let e = zero_at n x in omega (arith, e);
      holds = λ t. λ code. λ own. λ other. λ inside. ap (filter (stands_at t)) (none_from (length rows) rows (no_links n) _ (zero_at n (key_slot (length rows) code)));
    }

pub merging_start : (codes : ℕ) (first : ℤ) (lefts rights : List Entry) (left_links right_links : List ℕ) (pairs : List Pair) → pairs ≡ [] → left_links ≡ replicate (key_slot (length lefts) codes) 0 → right_links ≡ replicate (key_slot (length rights) codes) 0 → Merging codes first lefts rights 0 0 left_links right_links pairs
merging_start codes first lefts rights left_links right_links pairs none left_is right_is =
    rw (none, left_is, right_is) (record {
      same = λ t. refl;
      left_held = none_held codes lefts;
      right_held = none_held codes rights;
      left_next = none_below lefts;
      right_next = none_below rights;
    })

pub merging_end : (codes : ℕ) (first : ℤ) (lefts rights : List Entry) (i j : ℕ) (left_links right_links : List ℕ) (pairs : List Pair) → Merging codes first lefts rights i j left_links right_links pairs → length lefts ≤ i → length rights ≤ j → AreSame pairs (grid first lefts rights)
merging_end codes first lefts rights i j left_links right_links pairs m a b =
    subst (λ rs. AreSame pairs (grid first lefts rs)) (take_all j rights b) (subst (λ ls. AreSame pairs (grid first ls (take j rights))) (take_all i lefts a) (λ f. m.same f ∙ grid_same first (back i lefts) (back j rights) (take i lefts) (take j rights) (λ g. sum_back g (take i lefts)) (λ g. sum_back g (take j rights)) f))
