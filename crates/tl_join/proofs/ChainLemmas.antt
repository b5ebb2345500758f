-- What the links of chains lead to, and that taking ended rows out leaves the others.
use Rattle.std.proofs.Common.{◌≡◌, ℕ, zero, suc, ℤ, ◌-◌, ◌≤◌, ◌<◌, Bool, true, false, ◌==◌, List, [], ◌∷◌, ◌++◌, length, map, refl, sym, ap, ◌∙◌, subst, arith, append_assoc, get_or, slice_set}
use Rattle.std.proofs.lemmas.List.{append-nil, get_or-set_same, get_or-set_other, length-set}
use Rattle.std.specs.List.{filter}
use Rattle.tl_types.specs.declared.runs.Pair.{Pair}
use Rattle.tl_join.specs.declared.entries.Entry.{Entry}
use Rattle.tl_join.specs.Sweep.{pair_at, stands_at}
use Rattle.tl_join.specs.Chains.{nobody, key_slot, rows_from, behind, chain_of, AreLinked, AreTaken, AreKept}

-- how many rows may be followed does not matter, where they are enough
pub enough : (rows : List Entry) (links : List ℕ) → AreLinked (length rows) links → (m n at : ℕ) → at ≤ m → at ≤ n → at ≤ length rows → rows_from m rows links at ≡ rows_from n rows links at
enough rows links l zero zero at a b inside = refl
enough rows links l zero (suc n) zero a b inside = refl
enough rows links l zero (suc n) (suc at) a b inside = absurd (omega (arith, a))
enough rows links l (suc m) zero zero a b inside = refl
enough rows links l (suc m) zero (suc at) a b inside = absurd (omega (arith, b))
enough rows links l (suc m) (suc n) zero a b inside = refl
enough rows links l (suc m) (suc n) (suc at) a b inside =
    let next : get_or links (suc at) 0 ≤ at = l.falls at (omega (arith, inside)) in
    ap (λ os. get_or rows at nobody ∷ os) (enough rows links l m n (get_or links (suc at) 0) (omega (arith, next, a)) (omega (arith, next, b)) (omega (arith, next, inside)))

-- what a list is that begins with a row that stands, or with one that does not
pub stands_first : (t : ℤ) (e : Entry) (es : List Entry) → stands_at t e ≡ true → filter (stands_at t) (e ∷ es) ≡ e ∷ filter (stands_at t) es
stands_first t e es h = rw h refl

pub ends_first : (t : ℤ) (e : Entry) (es : List Entry) → stands_at t e ≡ false → filter (stands_at t) (e ∷ es) ≡ filter (stands_at t) es
ends_first t e es h = rw h refl

pub same_first : (t : ℤ) (e : Entry) (es os : List Entry) → filter (stands_at t) es ≡ filter (stands_at t) os → filter (stands_at t) (e ∷ es) ≡ filter (stands_at t) (e ∷ os)
same_first t e es os h = by_test (stands_at t e) refl where
  by_test : (b : Bool) → stands_at t e ≡ b → filter (stands_at t) (e ∷ es) ≡ filter (stands_at t) (e ∷ os)
  by_test true k = stands_first t e es k ∙ ap (λ us. e ∷ us) h ∙ sym (stands_first t e os k)
  by_test false k = ends_first t e es k ∙ h ∙ sym (ends_first t e os k)

module _ (t : ℤ) (rows : List Entry) (links : List ℕ) (l : AreLinked (length rows) links) (slot k : ℕ) (inside : slot < length links) (leads : get_or links slot 0 ≡ suc k) (ended : stands_at t (get_or rows k nobody) ≡ false) where
  -- the links with a row passed over
  abbrev passed : List ℕ
  passed = slice_set links slot (get_or links (suc k) 0)

  here : get_or passed slot 0 ≡ get_or links (suc k) 0
  here = get_or-set_same links slot (get_or links (suc k) 0) 0 inside

  other : (x : ℕ) → (x == slot) ≡ false → get_or passed x 0 ≡ get_or links x 0
  other x h = get_or-set_other links slot x (get_or links (suc k) 0) 0 (grind (arith))

  short : k < length rows
  short = let a = l.inside slot in omega (arith, a, leads)

  down : get_or links (suc k) 0 ≤ k
  down = l.falls k short

  over : (most : ℕ) → suc k ≤ most → filter (stands_at t) (rows_from most rows links (suc k)) ≡ filter (stands_at t) (rows_from most rows links (get_or links (suc k) 0))
  over zero h = absurd (omega (arith, h))
  over (suc most) h =
      ends_first t (get_or rows k nobody) (rows_from most rows links (get_or links (suc k) 0)) ended ∙ ap (filter (stands_at t)) (enough rows links l most (suc most) (get_or links (suc k) 0) (let d = down in omega (arith, d, h)) (let d = down in omega (arith, d, h)) (let d = down in let s = short in omega (arith, d, s)))

  -- from each slot on the links lead to the same rows that stand
  pub same_rows : (most at : ℕ) → at ≤ most → at ≤ length rows → filter (stands_at t) (rows_from most rows passed at) ≡ filter (stands_at t) (rows_from most rows links at)
  same_rows zero at a b = refl
  same_rows (suc most) zero a b = refl
  same_rows (suc most) (suc at) a b =
      by_test (suc at == slot) refl (l.falls at (omega (arith, b))) (same_rows most) where
        by_test : (c : Bool) → (suc at == slot) ≡ c → get_or links (suc at) 0 ≤ at → ((at : ℕ) → at ≤ most → at ≤ length rows → filter (stands_at t) (rows_from most rows passed at) ≡ filter (stands_at t) (rows_from most rows links at)) → filter (stands_at t) (get_or rows at nobody ∷ rows_from most rows passed (get_or passed (suc at) 0)) ≡ filter (stands_at t) (get_or rows at nobody ∷ rows_from most rows links (get_or links (suc at) 0))
        by_test false c next later =
            same_first t (get_or rows at nobody) _ _ (ap (λ x. filter (stands_at t) (rows_from most rows passed x)) (other (suc at) c) ∙ later (get_or links (suc at) 0) (omega (arith, next, a)) (omega (arith, next, b)))
        by_test true c next later =
            let is : suc at ≡ slot = grind (arith) in
            let to : get_or links (suc at) 0 ≡ suc k = ap (λ x. get_or links x 0) is ∙ leads in
            let new : get_or passed (suc at) 0 ≡ get_or links (suc k) 0 = ap (λ x. get_or passed x 0) is ∙ here in
            let below : suc k ≤ most = omega (arith, next, to, a) in
            same_first t (get_or rows at nobody) _ _ (ap (λ x. filter (stands_at t) (rows_from most rows passed x)) new ∙ later (get_or links (suc k) 0) (let d = down in omega (arith, d, below)) (let d = down in let s = short in omega (arith, d, s)) ∙ sym (ap (λ x. filter (stands_at t) (rows_from most rows links x)) to ∙ over most below))

  set_linked : AreLinked (length rows) passed
  set_linked =
      record {
        inside = λ x. by_test x (x == slot) refl (l.inside x) (l.inside (suc k));
        falls = λ at. λ h. by_place at (suc at == slot) refl (l.falls at h) down;
      } where
        by_test : (x : ℕ) (c : Bool) → (x == slot) ≡ c → get_or links x 0 ≤ length rows → get_or links (suc k) 0 ≤ length rows → get_or passed x 0 ≤ length rows
        by_test x true c a b = let is : x ≡ slot = grind (arith) in let e = ap (λ y. get_or passed y 0) is ∙ here in omega (arith, e, b)
        by_test x false c a b = let e = other x c in omega (arith, e, a)

        by_place : (at : ℕ) (c : Bool) → (suc at == slot) ≡ c → get_or links (suc at) 0 ≤ at → get_or links (suc k) 0 ≤ k → get_or passed (suc at) 0 ≤ at
        by_place at true c a b = let is : suc at ≡ slot = grind (arith) in let e = ap (λ y. get_or passed y 0) is ∙ here in let f = ap (λ y. get_or links y 0) is ∙ leads in omega (arith, e, f, a, b)
        by_place at false c a b = let e = other (suc at) c in omega (arith, e, a)

  set_taken : (taken : ℕ) → AreTaken taken links → AreTaken taken passed
  set_taken taken h x = by_test (x == slot) refl (h x) (h (suc k)) where
    by_test : (c : Bool) → (x == slot) ≡ c → get_or links x 0 ≤ taken → get_or links (suc k) 0 ≤ taken → get_or passed x 0 ≤ taken
    by_test true c a b = let is : x ≡ slot = grind (arith) in let e = ap (λ y. get_or passed y 0) is ∙ here in omega (arith, e, b)
    by_test false c a b = let e = other x c in omega (arith, e, a)

  set_same : (x : ℕ) → filter (stands_at t) (behind rows passed x) ≡ filter (stands_at t) (behind rows links x)
  set_same x = by_test (x == slot) refl where
    by_test : (c : Bool) → (x == slot) ≡ c → filter (stands_at t) (rows_from (length rows) rows passed (get_or passed x 0)) ≡ filter (stands_at t) (rows_from (length rows) rows links (get_or links x 0))
    by_test true c =
        let is : x ≡ slot = grind (arith) in
        ap (λ y. filter (stands_at t) (rows_from (length rows) rows passed y)) (ap (λ y. get_or passed y 0) is ∙ here)
        ∙ same_rows (length rows) (get_or links (suc k) 0) (l.inside (suc k)) (l.inside (suc k))
        ∙ sym (ap (λ y. filter (stands_at t) (rows_from (length rows) rows links y)) (ap (λ y. get_or links y 0) is ∙ leads) ∙ over (length rows) (let s = short in omega (arith, s)))
    by_test false c =
        ap (λ y. filter (stands_at t) (rows_from (length rows) rows passed y)) (other x c)
        ∙ same_rows (length rows) (get_or links x 0) (l.inside x) (l.inside x)

  -- passing an ended row over keeps the others
  pub passed_kept : AreKept rows t links passed
  passed_kept = record { size = length-set links slot (get_or links (suc k) 0); linked = set_linked; taken = set_taken; same = set_same }

  pub passed_behind : filter (stands_at t) (behind rows passed slot) ≡ filter (stands_at t) (rows_from (length rows) rows links (get_or links (suc k) 0))
  passed_behind = ap (λ y. filter (stands_at t) (rows_from (length rows) rows passed y)) here ∙ same_rows (length rows) (get_or links (suc k) 0) (l.inside (suc k)) (l.inside (suc k))

kept_on : (rows : List Entry) (t : ℤ) (old now new : List ℕ) → AreKept rows t old now → AreKept rows t now new → AreKept rows t old new
kept_on rows t old now new a b = record { size = b.size ∙ a.size; linked = b.linked; taken = λ n. λ h. b.taken n (a.taken n h); same = λ x. b.same x ∙ a.same x }

kept_at : (rows : List Entry) (t : ℤ) (old : List ℕ) → AreLinked (length rows) old → AreKept rows t old old
kept_at rows t old l = record { size = refl; linked = l; taken = λ n. λ h. h; same = λ x. refl }

-- a chain is followed up to the slot: the pairs that are out, with those of the rows behind the slot, are the pairs of the chain
pub record Following (rows : List Entry) (e : Entry) (turned : Bool) (old links : List ℕ) (slot : ℕ) (before pairs : List Pair) : Type 0 where
  pub kept : AreKept rows e.begin old links
  pub inside : slot < length links
  pub sized : length rows < length links
  pub out : pairs ++ map (pair_at turned e) (filter (stands_at e.begin) (behind rows links slot)) ≡ before ++ map (pair_at turned e) (filter (stands_at e.begin) (chain_of rows old e.code))

pub following_start : (rows : List Entry) (e : Entry) (turned : Bool) (old : List ℕ) (before : List Pair) → AreLinked (length rows) old → key_slot (length rows) e.code < length old → Following rows e turned old old (key_slot (length rows) e.code) before before
following_start rows e turned old before l key = record { kept = kept_at rows e.begin old l; inside = key; sized = omega (arith, key); out = refl }

module _ (rows : List Entry) (e : Entry) (turned : Bool) (old links : List ℕ) (slot : ℕ) (before pairs : List Pair) (f : Following rows e turned old links slot before pairs) where
  -- the slot that the links lead to next, where they do
  pub next_inside : get_or links slot 0 < length links
  next_inside = let a = f.kept.linked.inside slot in let b = f.sized in omega (arith, a, b)

  pub next_row : (get_or links slot 0 == 0) ≡ false → get_or links slot 0 - 1 < length rows
  next_row h = let a = f.kept.linked.inside slot in let b : 1 ≤ get_or links slot 0 = grind (arith) in omega (arith, a, b)

  pub steps_down : (at : ℕ) → get_or links slot 0 ≡ at → (at == 0) ≡ false → get_or links at 0 < at
  steps_down zero is h = absurd (cc)
  steps_down (suc k) is h = let a = f.kept.linked.inside slot in let b = f.kept.linked.falls k (omega (arith, a, is)) in omega (arith, b)

  rows_next : (k : ℕ) → get_or links slot 0 ≡ suc k → behind rows links slot ≡ get_or rows k nobody ∷ behind rows links (suc k)
  rows_next k is =
      let a : suc k ≤ length rows = (let x = f.kept.linked.inside slot in omega (arith, x, is)) in
      ap (rows_from (length rows) rows links) is ∙ enough rows links f.kept.linked (length rows) (suc (length rows)) (suc k) a (omega (arith, a)) a

  pub kept_next : (at : ℕ) (o : Entry) (more : List Pair) → get_or links slot 0 ≡ at → (at == 0) ≡ false → o ≡ get_or rows (at - 1) nobody → stands_at e.begin o ≡ true → more ≡ pairs ++ pair_at turned e o ∷ [] → Following rows e turned old links at before more
  kept_next zero o more is h row stands grown = absurd (cc)
  kept_next (suc k) o more is h row stands grown =
      let here : o ≡ get_or rows k nobody = row ∙ ap (λ n. get_or rows n nobody) (omega (arith)) in
      let front : filter (stands_at e.begin) (behind rows links slot) ≡ o ∷ filter (stands_at e.begin) (behind rows links (suc k)) = ap (filter (stands_at e.begin)) (rows_next k is ∙ ap (λ x. x ∷ behind rows links (suc k)) (sym here)) ∙ stands_first e.begin o (behind rows links (suc k)) stands in
      record {
        kept = f.kept;
        inside = subst (λ n. n < length links) is next_inside;
        sized = f.sized;
        out = ap (λ ps. ps ++ map (pair_at turned e) (filter (stands_at e.begin) (behind rows links (suc k)))) grown ∙ append_assoc pairs (pair_at turned e o ∷ []) _ ∙ ap (λ es. pairs ++ map (pair_at turned e) es) (sym front) ∙ f.out;
      }

  pub passed_next : (at : ℕ) (o : Entry) (new : List ℕ) → get_or links slot 0 ≡ at → (at == 0) ≡ false → o ≡ get_or rows (at - 1) nobody → stands_at e.begin o ≡ false → new ≡ slice_set links slot (get_or links at 0) → Following rows e turned old new slot before pairs
  passed_next zero o new is h row ended set = absurd (cc)
  passed_next (suc k) o new is h row ended set =
      let here : o ≡ get_or rows k nobody = row ∙ ap (λ n. get_or rows n nobody) (omega (arith)) in
      let gone : stands_at e.begin (get_or rows k nobody) ≡ false = ap (stands_at e.begin) (sym here) ∙ ended in
      let one = passed_kept e.begin rows links f.kept.linked slot k f.inside is gone in
      let front : filter (stands_at e.begin) (behind rows links slot) ≡ filter (stands_at e.begin) (behind rows links (suc k)) = ap (filter (stands_at e.begin)) (rows_next k is) ∙ ends_first e.begin (get_or rows k nobody) (behind rows links (suc k)) gone in
      rw set (record {
        kept = kept_on rows e.begin old links _ f.kept one;
        inside = subst (λ n. slot < n) (sym one.size) f.inside;
        sized = subst (λ n. length rows < n) (sym one.size) f.sized;
        out = ap (λ es. pairs ++ map (pair_at turned e) es) (passed_behind e.begin rows links f.kept.linked slot k f.inside is gone ∙ sym front) ∙ f.out;
      })

  pub following_end : get_or links slot 0 ≡ 0 → pairs ≡ before ++ map (pair_at turned e) (filter (stands_at e.begin) (chain_of rows old e.code))
  following_end is = sym (append-nil pairs) ∙ ap (λ es. pairs ++ map (pair_at turned e) (filter (stands_at e.begin) es)) (sym (none_behind (length rows) (get_or links slot 0) is)) ∙ f.out where
    none_behind : (most at : ℕ) → at ≡ 0 → rows_from most rows links at ≡ []
    none_behind zero at h = refl
    none_behind (suc most) zero h = refl
    none_behind (suc most) (suc at) h = absurd (cc)
