-- The marks of a table, and those of all tables.
use Rattle.std.proofs.Common.{◌≡◌, ℕ, zero, suc, ◌+◌, ◌-◌, ◌<◌, ◌≤◌, Bool, true, false, cond, nat_le, List, [], ◌∷◌, ◌++◌, length, take, drop, get_or, Option, Some, None, slice_get, ◌⊎◌, inl, inr, refl, sym, ap, ◌∙◌, subst, arith, append_assoc}
use Rattle.std.specs.Prelude.{fold, slice_set, replicate}
use Rattle.std.specs.List.{AllByRecursion}
use Rattle.std.proofs.lemmas.Bool.{cases_lt, cond-true, cond-false, le-leb, lt-leb}
use Rattle.std.proofs.lemmas.Bool.Decides.{nat_tests}
use Rattle.std.proofs.lemmas.List.{take-append-drop}
use Rattle.std.proofs.lemmas.List.Sums.{fold-append, fold_more}
use Rattle.std.proofs.lemmas.Option.{get_or_from_slice_get, slice_get_within}
use Rattle.tl_types.specs.Checkpoints.{Checkpoint}
use Rattle.tl_ckpt.specs.Marks.{marks_for, mark_put, mark_put_at, with_mark, later_mark, nearest_in, Climb, EachClimbs, ArePartedAt}

-- IN ORDER

above_at : (low : ℕ) (marks : List Checkpoint) (j : ℕ) (b : Checkpoint) → AllByRecursion (λ m. low ≤ m.version) marks → slice_get marks j ≡ Some b → low ≤ b.version
above_at low [] j b all h = absurd (cc)
above_at low (m ∷ marks) zero b all h = let e : m ≡ b = cc in subst (λ (x : Checkpoint). low ≤ x.version) e all.0
above_at low (m ∷ marks) (suc j) b all h = above_at low marks j b all.1 h

pub in_turn : (marks : List Checkpoint) (i j : ℕ) (a b : Checkpoint) → Climb marks → i < j → slice_get marks i ≡ Some a → slice_get marks j ≡ Some b → a.version ≤ b.version
in_turn [] i j a b up l h k = absurd (cc)
in_turn (m ∷ marks) i zero a b up l h k = absurd (omega arith)
in_turn (m ∷ marks) zero (suc j) a b up l h k = let e : m ≡ a = cc in subst (λ (x : Checkpoint). x.version ≤ b.version) e (above_at m.version marks j b up.0 k)
in_turn (m ∷ marks) (suc i) (suc j) a b up l h k = in_turn marks i j a b up.1 (omega arith) h k

-- a mark that is not after the version, and those before it
pub front_more : (marks : List Checkpoint) (version middle : ℕ) (at : Checkpoint) → Climb marks → slice_get marks middle ≡ Some at → at.version ≤ version
    → (i : ℕ) (mark : Checkpoint) → i < middle + 1 → slice_get marks i ≡ Some mark → mark.version ≤ version
front_more marks version middle at up is low i mark below here = by_place (cases_lt i middle) where
  by_place : (i < middle) ⊎ (middle ≤ i) → mark.version ≤ version
  by_place (inl before) = let e = in_turn marks i middle mark at up before here is in omega arith
  by_place (inr past) =
      let same : i ≡ middle = omega arith in
      let found : Some mark ≡ Some at = sym here ∙ ap (slice_get marks) same ∙ is in
      let e : mark.version ≡ at.version = ap (λ x. x.version) (let f : mark ≡ at = cc in f) in
      omega arith

-- a mark that is after the version, and those behind it
pub back_more : (marks : List Checkpoint) (version middle : ℕ) (at : Checkpoint) → Climb marks → slice_get marks middle ≡ Some at → version < at.version
    → (i : ℕ) (mark : Checkpoint) → middle ≤ i → slice_get marks i ≡ Some mark → version < mark.version
back_more marks version middle at up is high i mark above here = by_place (cases_lt middle i) where
  by_place : (middle < i) ⊎ (i ≤ middle) → version < mark.version
  by_place (inl behind) = let e = in_turn marks middle i at mark up behind is here in omega arith
  by_place (inr before) =
      let same : i ≡ middle = omega arith in
      let found : Some mark ≡ Some at = sym here ∙ ap (slice_get marks) same ∙ is in
      let e : mark.version ≡ at.version = ap (λ x. x.version) (let f : mark ≡ at = cc in f) in
      omega arith

-- ONE MARK MORE

parted_rest : (m : Checkpoint) (marks : List Checkpoint) (version count : ℕ) → ArePartedAt (m ∷ marks) version (suc count) → ArePartedAt marks version count
parted_rest m marks version count parted =
    record {
      within = (let w = parted.within in omega (arith, w));
      front = λ i mark l h. parted.front (suc i) mark (omega (arith, l)) h;
      back = λ i mark l h. parted.back (suc i) mark (omega (arith, l)) h;
    }

pub put_between : (marks : List Checkpoint) (mark : Checkpoint) (count : ℕ) → ArePartedAt marks mark.version count → mark_put mark marks ≡ take count marks ++ mark ∷ drop count marks
put_between [] mark zero parted = refl
put_between [] mark (suc count) parted = let w = parted.within in absurd (omega (arith, w))
put_between (m ∷ marks) mark zero parted =
    cond-false (nat_le m.version mark.version) (m ∷ mark_put mark marks) (mark ∷ m ∷ marks) (lt-leb m.version mark.version (parted.back 0 m (omega arith) refl))
put_between (m ∷ marks) mark (suc count) parted =
    cond-true (nat_le m.version mark.version) (m ∷ mark_put mark marks) (mark ∷ m ∷ marks) (le-leb m.version mark.version (parted.front 0 m (omega arith) refl))
    ∙ ap (λ ms. m ∷ ms) (put_between marks mark count (parted_rest m marks mark.version count parted))

-- behind all others
pub put_last : (marks : List Checkpoint) (mark : Checkpoint) → ArePartedAt marks mark.version (length marks) → mark_put mark marks ≡ marks ++ mark ∷ []
put_last [] mark parted = refl
put_last (m ∷ marks) mark parted =
    cond-true (nat_le m.version mark.version) (m ∷ mark_put mark marks) (mark ∷ m ∷ marks) (le-leb m.version mark.version (parted.front 0 m (omega arith) refl))
    ∙ ap (λ ms. m ∷ ms) (put_last marks mark (parted_rest m marks mark.version (length marks) parted))

all_put : (low : ℕ) (mark : Checkpoint) (marks : List Checkpoint) → low ≤ mark.version → AllByRecursion (λ m. low ≤ m.version) marks → AllByRecursion (λ m. low ≤ m.version) (mark_put mark marks)
all_put low mark [] l all = (l, tt)
all_put low mark (m ∷ marks) l all = by_test (nat_le m.version mark.version) (all_put low mark marks l all.1) where
  by_test : (b : Bool) → AllByRecursion (λ m. low ≤ m.version) (mark_put mark marks) → AllByRecursion (λ m. low ≤ m.version) (cond b (m ∷ mark_put mark marks) (mark ∷ m ∷ marks))
  by_test true later = (all.0, later)
  by_test false later = (l, all)

at_most : (a b : ℕ) → nat_le a b ≡ true → a ≤ b
at_most a b h = grind (arith, nat_tests)

all_later : (low high : ℕ) (marks : List Checkpoint) → low ≤ high → AllByRecursion (λ m. high ≤ m.version) marks → AllByRecursion (λ m. low ≤ m.version) marks
all_later low high [] l all = tt
all_later low high (m ∷ marks) l all = ((let a = all.0 in omega (arith, a, l)), all_later low high marks l all.1)

climbs_put : (mark : Checkpoint) (marks : List Checkpoint) → Climb marks → Climb (mark_put mark marks)
climbs_put mark [] up = (tt, tt)
climbs_put mark (m ∷ marks) up = by_test (nat_le m.version mark.version) refl (climbs_put mark marks up.1) where
  below : nat_le m.version mark.version ≡ false → mark.version ≤ m.version
  below e = before (cases_lt mark.version m.version) where
    before : (mark.version < m.version) ⊎ (m.version ≤ mark.version) → mark.version ≤ m.version
    before (inl l) = omega (arith, l)
    before (inr l) = absurd (let t = le-leb m.version mark.version l in cc)

  by_test : (b : Bool) → nat_le m.version mark.version ≡ b → Climb (mark_put mark marks) → Climb (cond b (m ∷ mark_put mark marks) (mark ∷ m ∷ marks))
  by_test true e later = (all_put m.version mark marks (at_most m.version mark.version e) up.0, later)
  by_test false e later = ((below e, all_later mark.version m.version marks (below e) up.0), up)

climbs_put_at : (table : ℕ) (mark : Checkpoint) (lists : List (List Checkpoint)) → EachClimbs lists → EachClimbs (mark_put_at table mark lists)
climbs_put_at zero mark [] up = ((tt, tt), tt)
climbs_put_at zero mark (l ∷ lists) up = (climbs_put mark l up.0, up.1)
climbs_put_at (suc table) mark [] up = (tt, climbs_put_at table mark [] up)
climbs_put_at (suc table) mark (l ∷ lists) up = (up.0, climbs_put_at table mark lists up.1)

pub each_climbs : (mark : Checkpoint) (lists made : List (List Checkpoint)) → EachClimbs lists → made ≡ with_mark mark lists → EachClimbs made
each_climbs mark lists made up is = subst EachClimbs (sym is) (climbs_put_at mark.table mark lists up)

pub one_climbs : (lists : List (List Checkpoint)) (table : ℕ) (list : List Checkpoint) → EachClimbs lists → slice_get lists table ≡ Some list → Climb list
one_climbs [] table list up h = absurd (cc)
one_climbs (l ∷ lists) zero list up h = let e : l ≡ list = cc in subst Climb e up.0
one_climbs (l ∷ lists) (suc table) list up h = one_climbs lists table list up.1 h

-- THE LISTS

none_at : (table : ℕ) (mark : Checkpoint) → slice_set (replicate (suc table) []) table (mark_put mark []) ≡ mark_put_at table mark []
none_at zero mark = refl
none_at (suc table) mark = ap (λ ls. [] ∷ ls) (none_at table mark)

pub put_at_is : (table : ℕ) (mark : Checkpoint) (lists : List (List Checkpoint)) → slice_set (lists ++ replicate (suc table - length lists) []) table (mark_put mark (marks_for lists table)) ≡ mark_put_at table mark lists
put_at_is table mark [] = let e : suc table - 0 ≡ suc table = omega arith in rw e (none_at table mark)
put_at_is zero mark (l ∷ lists) = let e : 1 - suc (length lists) ≡ 0 = omega arith in rw e (ap (λ ls. mark_put mark l ∷ ls) (append_none lists)) where
  append_none : (ls : List (List Checkpoint)) → ls ++ [] ≡ ls
  append_none [] = refl
  append_none (x ∷ ls) = ap (λ ys. x ∷ ys) (append_none ls)
put_at_is (suc table) mark (l ∷ lists) = let e : suc (suc table) - suc (length lists) ≡ suc table - length lists = omega arith in rw e (ap (λ ls. l ∷ ls) (put_at_is table mark lists))

-- what stands at a place of the longer lists
pub list_there : (table : ℕ) (lists : List (List Checkpoint)) → slice_get (lists ++ replicate (suc table - length lists) []) table ≡ Some (marks_for lists table)
list_there table [] = let e : suc table - 0 ≡ suc table = omega arith in rw e (none_there table) where
  none_there : (t : ℕ) → slice_get (replicate {A = List Checkpoint} (suc t) []) t ≡ Some []
  none_there zero = refl
  none_there (suc t) = none_there t
list_there zero (l ∷ lists) = refl
list_there (suc table) (l ∷ lists) = let e : suc (suc table) - suc (length lists) ≡ suc table - length lists = omega arith in rw e (list_there table lists)

-- THE NEAREST

marks_after : (marks : List Checkpoint) (version : ℕ) (best : Option Checkpoint) → ((i : ℕ) (mark : Checkpoint) → slice_get marks i ≡ Some mark → version < mark.version) → fold (later_mark version) best marks ≡ best
marks_after [] version best after = refl
marks_after (m ∷ marks) version best after =
    ap (λ b. fold (later_mark version) b marks) (cond-false (nat_le m.version version) (Some m) best (lt-leb m.version version (after 0 m refl)))
    ∙ marks_after marks version best (λ i e. after (suc i) e)

slice_get-drop : {X : Type 0} (n : ℕ) (xs : List X) (i : ℕ) → slice_get (drop n xs) i ≡ slice_get xs (n + i)
slice_get-drop zero xs i = ap (slice_get xs) (let e : i ≡ 0 + i = omega arith in e)
slice_get-drop (suc n) [] i = refl
slice_get-drop (suc n) (x ∷ xs) i = slice_get-drop n xs i ∙ ap (slice_get (x ∷ xs)) (let e : suc (n + i) ≡ suc n + i = omega arith in e)

nearest_of_front : (marks : List Checkpoint) (version count : ℕ) → ArePartedAt marks version count → nearest_in marks version ≡ fold (later_mark version) None (take count marks)
nearest_of_front marks version count parted =
    ap (fold (later_mark version) None) (sym (take-append-drop count marks))
    ∙ fold-append (later_mark version) None (take count marks) (drop count marks)
    ∙ marks_after (drop count marks) version (fold (later_mark version) None (take count marks))
    (λ i mark here. parted.back (count + i) mark (omega arith) (sym (slice_get-drop count marks i) ∙ here))

pub nearest_none : (marks : List Checkpoint) (version count : ℕ) → ArePartedAt marks version count → count ≡ 0 → nearest_in marks version ≡ None
nearest_none marks version count parted none = nearest_of_front marks version count parted ∙ ap (λ n. fold (later_mark version) None (take n marks)) none

pub nearest_last : (marks : List Checkpoint) (version count place : ℕ) (mark : Checkpoint) → ArePartedAt marks version count → count ≡ place + 1 → slice_get marks place ≡ Some mark → nearest_in marks version ≡ Some mark
nearest_last marks version count place mark parted is here =
    let found : get_or marks place mark ≡ mark = get_or_from_slice_get marks place mark mark here in
    let within : place < length marks = slice_get_within marks place mark here in
    let low : mark.version ≤ version = parted.front place mark (omega (arith, is)) here in
    nearest_of_front marks version count parted
    ∙ ap (λ n. fold (later_mark version) None (take n marks)) is
    ∙ fold_more (later_mark version) None marks place mark within
    ∙ ap (later_mark version (fold (later_mark version) None (take place marks))) found
    ∙ cond-true (nat_le mark.version version) (Some mark) (fold (later_mark version) None (take place marks)) (le-leb mark.version version low)

-- one list of no mark more
pub one_none_more : (lists items : List (List Checkpoint)) (new : List Checkpoint) (counter : ℕ) → length lists ≤ counter → items ≡ lists ++ replicate (counter - length lists) [] → new ≡ [] → items ++ new ∷ [] ≡ lists ++ replicate (counter + 1 - length lists) []
one_none_more lists items new counter l is none =
    let e : counter + 1 - length lists ≡ suc (counter - length lists) = omega (arith, l) in
    rw (is, none, e) (append_assoc lists (replicate (counter - length lists) []) ([] ∷ []) ∙ ap (λ ls. lists ++ ls) (none_behind (counter - length lists))) where
      none_behind : (n : ℕ) → replicate {A = List Checkpoint} n [] ++ [] ∷ [] ≡ replicate (suc n) []
      none_behind zero = refl
      none_behind (suc n) = ap (λ ls. [] ∷ ls) (none_behind n)

pub same_count : (lists : List (List Checkpoint)) (counter count : ℕ) → count ≤ counter → (length lists ≤ count → counter ≤ count) → (count < length lists → counter ≡ length lists) → lists ++ replicate {A = List Checkpoint} (counter - length lists) [] ≡ lists ++ replicate (count - length lists) []
same_count lists counter count l far none = ap (λ n. lists ++ replicate {A = List Checkpoint} n []) (by_length (cases_lt count (length lists))) where
  by_length : (count < length lists) ⊎ (length lists ≤ count) → counter - length lists ≡ count - length lists
  by_length (inl less) = let e = none less in omega (arith, e, less)
  by_length (inr more) = let e = far more in omega (arith, e, l)

-- what stands at the place of a table in the longer lists
pub at_is : (lists longer : List (List Checkpoint)) (table : ℕ) (at : List Checkpoint) → longer ≡ lists ++ replicate (table + 1 - length lists) [] → at ≡ get_or longer table at → at ≡ marks_for lists table
at_is lists longer table at is here =
    let e : table + 1 ≡ suc table = omega arith in
    let same : longer ≡ lists ++ replicate (suc table - length lists) [] = is ∙ ap (λ n. lists ++ replicate {A = List Checkpoint} (n - length lists) []) e in
    here ∙ get_or_from_slice_get longer table (marks_for lists table) at (ap (λ ls. slice_get ls table) same ∙ list_there table lists)

for_climbs : (lists : List (List Checkpoint)) (table : ℕ) → EachClimbs lists → Climb (marks_for lists table)
for_climbs [] table up = tt
for_climbs (l ∷ lists) zero up = up.0
for_climbs (l ∷ lists) (suc table) up = for_climbs lists table up.1

pub at_climbs : (lists longer : List (List Checkpoint)) (table : ℕ) (at : List Checkpoint) → EachClimbs lists → longer ≡ lists ++ replicate (table + 1 - length lists) [] → at ≡ get_or longer table at → Climb at
at_climbs lists longer table at up is here = subst Climb (sym (at_is lists longer table at is here)) (for_climbs lists table up)

pub with_made : (mark : Checkpoint) (lists longer : List (List Checkpoint)) (table : ℕ) (at list put : List Checkpoint) → table ≡ mark.table → longer ≡ lists ++ replicate (table + 1 - length lists) [] → at ≡ get_or longer table at → list ≡ mark_put mark at → put ≡ list → slice_set longer table put ≡ with_mark mark lists
with_made mark lists longer table at list put named is here made new =
    let e : table + 1 ≡ suc table = omega arith in
    let same : longer ≡ lists ++ replicate (suc table - length lists) [] = is ∙ ap (λ n. lists ++ replicate {A = List Checkpoint} (n - length lists) []) e in
    let value : put ≡ mark_put mark (marks_for lists table) = new ∙ made ∙ ap (mark_put mark) (at_is lists longer table at is here) in
    ap (λ ls. slice_set ls table put) same ∙ ap (λ l. slice_set (lists ++ replicate {A = List Checkpoint} (suc table - length lists) []) table l) value
    ∙ put_at_is table mark lists ∙ ap (λ t. mark_put_at t mark lists) named

pub parted_by : (marks : List Checkpoint) (version : ℕ) (mark : Checkpoint) (count : ℕ) → version ≡ mark.version → ArePartedAt marks version count → ArePartedAt marks mark.version count
parted_by marks version mark count is parted = subst (λ v. ArePartedAt marks v count) is parted

-- no list, no marks
pub none_for : (lists : List (List Checkpoint)) (table : ℕ) → length lists ≤ table → marks_for lists table ≡ []
none_for [] table l = refl
none_for (x ∷ lists) zero l = absurd (omega (arith, l))
none_for (x ∷ lists) (suc table) l = none_for lists table (omega (arith, l))

-- the list at the place of a table has its marks
pub list_for : (lists : List (List Checkpoint)) (table : ℕ) (list : List Checkpoint) → table < length lists → list ≡ get_or lists table list → marks_for lists table ≡ list
list_for [] table list l h = absurd (omega (arith, l))
list_for (x ∷ lists) zero list l h = sym h
list_for (x ∷ lists) (suc table) list l h = list_for lists table list (omega (arith, l)) h

pub climbs_for : (lists : List (List Checkpoint)) (table : ℕ) (list : List Checkpoint) → EachClimbs lists → marks_for lists table ≡ list → Climb list
climbs_for lists table list up is = subst Climb is (for_climbs lists table up)
