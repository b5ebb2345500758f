-- What is kept of rows whose ends are known.
use Rattle.std.proofs.Common.{◌≡◌, ◌⊎◌, inl, inr, ℕ, zero, suc, ◌+◌, ◌<◌, ℤ, pos, ◌≤ℤ◌, ◌<ℤ◌, ◌-ℤ◌, Bool, true, false, not, ◌&&◌, ◌||◌, cond, nat_lt, List, [], ◌∷◌, ◌++◌, length, map, fold, Option, Some, None, option_map, refl, sym, ap, ◌∙◌, arith, subst, get_or}
use Rattle.std.specs.Prelude.{int_lt, int_le}
use Rattle.std.specs.Int.{int_min, int_max}
use Rattle.std.specs.List.{count_by}
use Rattle.std.specs.List.Sorted.{IsPermutation}
use Rattle.std.specs.BinaryHeap.{IsUpperBound}
use Rattle.std.specs.Ordering.{int_cmp, ordering_then, is_lt}
use Rattle.std.proofs.lemmas.Bool.Decides.{nat_tests}
use Rattle.std.proofs.lemmas.Int.{ints, clamps}
use Rattle.std.proofs.lemmas.List.{map-append}
use Rattle.std.proofs.lemmas.List.Sums.{sum_by-append}
use Rattle.std.proofs.lemmas.List.Sorted.{sum_by_pushed, sum_by_popped}
use Rattle.tl_types.specs.declared.answers.Field.{Field}
use Rattle.tl_types.specs.declared.answers.Field.TheVariants as field
use Rattle.tl_types.specs.Plain as plain
use Rattle.tl_query.specs.Aggregates.{least_field, greatest_field, aggregate_of}
use Rattle.tl_query.specs.declared.ast.AggKind.{AggKind}
use Rattle.tl_query.specs.declared.ast.AggKind.TheVariants as kind
use Rattle.tl_running.specs.declared.lasting.Lasting.{Lasting}
use Rattle.tl_running.specs.Heaps.{turned}
use Rattle.tl_running.specs.Standing.{Inserts, number_in, is_ordered, Suits}
use Rattle.tl_running.specs.Lasting.{lasting_cmp, is_above, have_above, IsGreatestAt, LastingRows, covers, cover_above, LastFor, Takes, SameFrom, IsFirst, IsOver, FirstLasts, ordered, lasting_of, ExtremeOf, StandsFrom, are_above, IsGreatestOf, AllLast, Comes, TellsExtreme}

-- ONE ROW MORE

or_swapped : (a b c : Bool) → (a || (b || c)) ≡ (b || (a || c))
or_swapped true true c = refl
or_swapped true false c = refl
or_swapped false b c = refl

above_seam : (now n : ℤ) (row : Lasting) (front back : List Lasting) → have_above now n (front ++ row ∷ back) ≡ (is_above now n row || have_above now n (front ++ back))
above_seam now n row [] back = refl
above_seam now n row (x ∷ front) back = ap (λ b. is_above now n x || b) (above_seam now n row front back) ∙ or_swapped (is_above now n x) (is_above now n row) (have_above now n (front ++ back))

pub above_more : (now n : ℤ) (row : Lasting) (fewer more : List Lasting) → Inserts row fewer more → have_above now n more ≡ (is_above now n row || have_above now n fewer)
above_more now n row fewer more ins =
    ap (have_above now n) ins.with ∙ above_seam now n row ins.front ins.back ∙ ap (λ rs. is_above now n row || have_above now n rs) (sym ins.without)

-- ROWS IN ANOTHER ORDER

counted_row : (test : Lasting → Bool) (x : Lasting) (xs : List Lasting) → count_by test (x ∷ xs) ≡ cond (test x) 1 0 + count_by test xs
counted_row test x xs = let z : 0 + cond (test x) 1 0 ≡ cond (test x) 1 0 = omega arith in sum_by-append (λ r. cond (test r) 1 0) (x ∷ []) xs ∙ ap (λ n. n + count_by test xs) z

or_counted : (b h : Bool) (c : ℕ) → h ≡ nat_lt 0 c → (b || h) ≡ nat_lt 0 (cond b 1 0 + c)
or_counted true h c e = grind (arith, nat_tests)
or_counted false h c e = let z : 0 + c ≡ c = omega arith in e ∙ ap (nat_lt 0) (sym z)

above_counted : (now n : ℤ) (xs : List Lasting) → have_above now n xs ≡ nat_lt 0 (count_by (is_above now n) xs)
above_counted now n [] = refl
above_counted now n (x ∷ xs) = or_counted (is_above now n x) (have_above now n xs) (count_by (is_above now n) xs) (above_counted now n xs) ∙ ap (nat_lt 0) (sym (counted_row (is_above now n) x xs))

pub above_pushed : (now n : ℤ) (x : Lasting) (xs ys : List Lasting) → IsPermutation (x ∷ xs) ys → have_above now n ys ≡ (is_above now n x || have_above now n xs)
above_pushed now n x xs ys p =
    let h = sum_by_pushed (λ r. cond (is_above now n r) 1 0) x xs ys p in
    let c = counted_row (is_above now n) x xs in
    let e : count_by (is_above now n) ys ≡ cond (is_above now n x) 1 0 + count_by (is_above now n) xs = omega arith in
    above_counted now n ys ∙ ap (nat_lt 0) (e ∙ sym c) ∙ sym (above_counted now n (x ∷ xs))

pub above_popped : (now n : ℤ) (x : Lasting) (xs ys : List Lasting) → IsPermutation xs (x ∷ ys) → have_above now n xs ≡ (is_above now n x || have_above now n ys)
above_popped now n x xs ys p =
    let h = sum_by_popped (λ r. cond (is_above now n r) 1 0) x xs ys p in
    let c = counted_row (is_above now n) x ys in
    let e : count_by (is_above now n) xs ≡ cond (is_above now n x) 1 0 + count_by (is_above now n) ys = omega arith in
    above_counted now n xs ∙ ap (nat_lt 0) (e ∙ sym c) ∙ sym (above_counted now n (x ∷ ys))

-- A ROW COMES

pub none_last : (floor : ℤ) (kept : LastingRows) → kept.rows ≡ [] → kept.cover ≡ None → LastFor kept floor []
none_last floor kept rows cover = record {
  same = λ now n l. ap (have_above now n) rows;
  cover = λ now n l. ap (λ c. cover_above now n c && true) cover;
}

-- a row that is covered is not above what came
under_cover : (now n : ℤ) (cover : Option Lasting) (row : Lasting) → covers cover row ≡ true → (is_above now n row && not (cover_above now n cover)) ≡ false
under_cover now n None row e = absurd (cc)
under_cover now n (Some c) row e = grind (arith, ints)

covered_changes : (r c h : Bool) → (r && not c) ≡ false → (c && not h) ≡ false → h ≡ (r || h)
covered_changes true true true a b = refl
covered_changes true true false a b = absurd (cc)
covered_changes true false h a b = absurd (cc)
covered_changes false c h a b = refl

cover_stays : (r c h : Bool) → (c && not h) ≡ false → (c && not (r || h)) ≡ false
cover_stays true true h a = refl
cover_stays true false h a = refl
cover_stays false c h a = a

cover_own : (r h : Bool) → (r && not (r || h)) ≡ false
cover_own true h = refl
cover_own false h = refl

pub takes_covered : (kept : LastingRows) (row : Lasting) → covers kept.cover row ≡ true → Takes kept kept row
takes_covered kept row e floor fewer more ins last = record {
  same = λ now n l. last.same now n l
      ∙ covered_changes (is_above now n row) (cover_above now n kept.cover) (have_above now n fewer) (under_cover now n kept.cover row e) (last.cover now n l)
      ∙ sym (above_more now n row fewer more ins);
  cover = λ now n l. ap (λ b. cover_above now n kept.cover && not b) (above_more now n row fewer more ins)
      ∙ cover_stays (is_above now n row) (cover_above now n kept.cover) (have_above now n fewer) (last.cover now n l);
}

pub takes_pushed : (old new : LastingRows) (row : Lasting) → IsPermutation (row ∷ old.rows) new.rows → (new.cover ≡ old.cover) ⊎ (new.cover ≡ Some row) → Takes old new row
takes_pushed old new row p one floor fewer more ins last = record {
  same = λ now n l. above_pushed now n row old.rows new.rows p ∙ ap (λ b. is_above now n row || b) (last.same now n l) ∙ sym (above_more now n row fewer more ins);
  cover = λ now n l. ap (λ b. cover_above now n new.cover && not b) (above_more now n row fewer more ins) ∙ by_one now n l one;
} where
  by_one : (now n : ℤ) → floor ≤ℤ now → (new.cover ≡ old.cover) ⊎ (new.cover ≡ Some row) → (cover_above now n new.cover && not (is_above now n row || have_above now n fewer)) ≡ false
  by_one now n l (inl e) = ap (λ c. cover_above now n c && not (is_above now n row || have_above now n fewer)) e ∙ cover_stays (is_above now n row) (cover_above now n old.cover) (have_above now n fewer) (last.cover now n l)
  by_one now n l (inr e) = ap (λ c. cover_above now n c && not (is_above now n row || have_above now n fewer)) e ∙ cover_own (is_above now n row) (have_above now n fewer)

-- THE FIRST ROW

not_under : (x y : Lasting) → is_lt (lasting_cmp x y) ≡ false → y.value ≤ℤ x.value
not_under x y e = by_tests (int_lt x.value y.value) (int_lt y.value x.value) refl refl e where
  by_tests : (a b : Bool) → int_lt x.value y.value ≡ a → int_lt y.value x.value ≡ b → is_lt (ordering_then (int_cmp x.value y.value) (int_cmp x.end y.end)) ≡ false → y.value ≤ℤ x.value
  by_tests true b f g h = absurd (let k = rw f at h in cc)
  by_tests false b f g h = grind (arith, ints)

upper_step : (now n : ℤ) (top row : Lasting) (h : Bool) → row.value ≤ℤ top.value → (h && not (int_lt n top.value)) ≡ false → ((is_above now n row || h) && not (int_lt n top.value)) ≡ false
upper_step now n top row true l e = by_test (int_lt now row.end && int_lt n row.value) where
  by_test : (b : Bool) → ((b || true) && not (int_lt n top.value)) ≡ false
  by_test true = e
  by_test false = e
upper_step now n top row false l e = grind (arith, ints)

upper_all : (now n : ℤ) (top : Lasting) (rows : List Lasting) → IsUpperBound lasting_cmp top rows → (have_above now n rows && not (int_lt n top.value)) ≡ false
upper_all now n top [] all = refl
upper_all now n top (x ∷ rows) all = upper_step now n top x (have_above now n rows) (not_under top x all.0) (upper_all now n top rows all.1)

pub first_is : (top : Lasting) (rows : List Lasting) → 0 < length rows → top ≡ get_or rows 0 top → IsUpperBound lasting_cmp top rows → IsFirst rows top
first_is top rows some is upper = record { some = some; is = is; upper = λ now n. upper_all now n top rows upper }

ended : (now n : ℤ) (x : Lasting) → x.end ≤ℤ now → is_above now n x ≡ false
ended now n x l = let e : int_lt now x.end ≡ false = grind (arith, ints) in ap (λ b. b && int_lt n x.value) e

pub dropped_same : (now : ℤ) (x : Lasting) (xs ys : List Lasting) → IsOver now xs → x ≡ get_or xs 0 x → IsPermutation xs (x ∷ ys) → SameFrom now xs ys
dropped_same now x xs ys over is p later n l =
    let end : x.end ≤ℤ now = subst (λ (r : Lasting). r.end ≤ℤ now) (sym is) (over.over x) in
    sym (above_popped later n x xs ys p ∙ ap (λ b. b || have_above later n ys) (ended later n x (omega (arith, ints))))

pub same_further : (now : ℤ) (xs ys zs : List Lasting) → SameFrom now xs ys → SameFrom now ys zs → SameFrom now xs zs
same_further now xs ys zs a b later n l = b later n l ∙ a later n l

pub over_first : (now : ℤ) (rows : List Lasting) (top : Lasting) → IsFirst rows top → top.end ≤ℤ now → IsOver now rows
over_first now [] top first l = absurd (let s = first.some in omega arith)
over_first now (x ∷ rows) top first l = record { some = first.some; over = λ d. subst (λ (r : Lasting). r.end ≤ℤ now) first.is l }

pub lasts_first : (now : ℤ) (rows : List Lasting) (top : Lasting) → IsFirst rows top → now <ℤ top.end → FirstLasts now rows
lasts_first now [] top first l d some = absurd (omega arith)
lasts_first now (x ∷ rows) top first l d some = subst (λ (r : Lasting). now <ℤ r.end) first.is l

pub lasts_none : (now : ℤ) (rows : List Lasting) → rows ≡ [] → FirstLasts now rows
lasts_none now [] e d some = absurd (omega arith)
lasts_none now (x ∷ rows) e d some = absurd (cc)

-- THE GREATEST VALUE

first_above : (now n : ℤ) (top : Lasting) (h : Bool) → now <ℤ top.end → ((is_above now n top || h) && not (int_lt n top.value)) ≡ false → (is_above now n top || h) ≡ int_lt n top.value
first_above now n top h l e = by_tests (int_lt n top.value) h (let t : int_lt now top.end ≡ true = grind (arith, ints) in ap (λ b. b && int_lt n top.value) t) e where
  by_tests : (b h : Bool) → is_above now n top ≡ b → ((is_above now n top || h) && not b) ≡ false → (is_above now n top || h) ≡ b
  by_tests true h f g = rw f refl
  by_tests false true f g = absurd (let k = rw f at g in cc)
  by_tests false false f g = rw f refl

top_greatest : (now : ℤ) (rows : List Lasting) (top : Lasting) → IsFirst rows top → FirstLasts now rows → IsGreatestAt now rows (Some top.value)
top_greatest now [] top first lasts n = absurd (let s = first.some in omega arith)
top_greatest now (x ∷ rows) top first lasts n =
    let l : now <ℤ top.end = subst (λ (r : Lasting). now <ℤ r.end) (sym first.is) (lasts top first.some) in
    let e : have_above now n (x ∷ rows) ≡ (is_above now n top || have_above now n rows) = ap (λ r. is_above now n r || have_above now n rows) (sym first.is) in
    e ∙ first_above now n top (have_above now n rows) l (ap (λ b. b && not (int_lt n top.value)) (sym e) ∙ first.upper now n)

pub greatest_of_first : (now : ℤ) (rows : List Lasting) (first : Option Lasting) → ((top : Lasting) → first ≡ Some top → IsFirst rows top) → (first ≡ None → rows ≡ []) → FirstLasts now rows → IsGreatestAt now rows (option_map (λ (r : Lasting). r.value) first)
greatest_of_first now rows None some none lasts = λ n. ap (have_above now n) (none refl)
greatest_of_first now rows (Some top) some none lasts = top_greatest now rows top (some top refl) lasts

pub greatest_same : (now : ℤ) (kept rows : List Lasting) (value : Option ℤ) → ((n : ℤ) → have_above now n kept ≡ have_above now n rows) → IsGreatestAt now kept value → IsGreatestAt now rows value
greatest_same now kept rows None same is = λ n. sym (same n) ∙ is n
greatest_same now kept rows (Some v) same is = λ n. sym (same n) ∙ is n

pub last_later : (old : LastingRows) (new : LastingRows) (floor now : ℤ) (rows : List Lasting) → new.cover ≡ old.cover → SameFrom now old.rows new.rows → floor ≤ℤ now → LastFor old floor rows → LastFor new now rows
last_later old new floor now rows cover same l last = record {
  same = λ later n m. same later n m ∙ last.same later n (omega (arith, ints));
  cover = λ later n m. ap (λ c. cover_above later n c && not (have_above later n rows)) cover ∙ last.cover later n (omega (arith, ints));
}

-- NUMBERS

max_above : (n x y : ℤ) → int_lt n (int_max x y) ≡ (int_lt n x || int_lt n y)
max_above n x y = grind (arith, ints, clamps)

or_chain : (a b c : Bool) → (a || (b || c)) ≡ ((a || b) || c)
or_chain true b c = refl
or_chain false b c = refl

above_fold : (n x : ℤ) (xs : List ℤ) → are_above n (x ∷ xs) ≡ int_lt n (fold int_max x xs)
above_fold n x [] = or_none (int_lt n x) where
  or_none : (b : Bool) → (b || false) ≡ b
  or_none true = refl
  or_none false = refl
above_fold n x (y ∷ xs) =
    or_chain (int_lt n x) (int_lt n y) (are_above n xs) ∙ ap (λ b. b || are_above n xs) (sym (max_above n x y)) ∙ above_fold n (int_max x y) xs

same_bounds : (x y : ℤ) → ((n : ℤ) → int_lt n x ≡ int_lt n y) → x ≡ y
same_bounds x y same = let a = same x in let b = same y in grind (arith, ints)

lower : (x : ℤ) → int_lt (x -ℤ pos 1) x ≡ true
lower x = grind (arith, ints)

pub greatest_some : (ns : List ℤ) (value : ℤ) → IsGreatestOf ns (Some value) → field.Number value ≡ greatest_field ns
greatest_some [] value is = absurd (let e = is (value -ℤ pos 1) in let f = lower value in cc)
greatest_some (x ∷ xs) value is = ap field.Number (same_bounds value (fold int_max x xs) (λ n. sym (is n) ∙ above_fold n x xs))

pub greatest_none_of : (ns : List ℤ) → IsGreatestOf ns None → field.Empty ≡ greatest_field ns
greatest_none_of [] is = refl
greatest_none_of (x ∷ xs) is = absurd (let e = is (fold int_max x xs -ℤ pos 1) in let f = lower (fold int_max x xs) in let g = above_fold (fold int_max x xs -ℤ pos 1) x xs in cc)

turned_max : (x y : ℤ) → int_max (turned x) (turned y) ≡ turned (int_min x y)
turned_max x y = grind (arith, ints, clamps)

fold_turned : (x : ℤ) (xs : List ℤ) → fold int_max (turned x) (map turned xs) ≡ turned (fold int_min x xs)
fold_turned x [] = refl
fold_turned x (y ∷ xs) = ap (λ z. fold int_max z (map turned xs)) (turned_max x y) ∙ fold_turned (int_min x y) xs

turned_twice : (x : ℤ) → turned (turned x) ≡ x
turned_twice x = omega (arith, ints)

pub least_some : (ns : List ℤ) (value : ℤ) → IsGreatestOf (map turned ns) (Some value) → field.Number (turned value) ≡ least_field ns
least_some [] value is = absurd (let e = is (value -ℤ pos 1) in let f = lower value in cc)
least_some (x ∷ xs) value is = ap field.Number (
    ap turned (same_bounds value (fold int_max (turned x) (map turned xs)) (λ n. sym (is n) ∙ above_fold n (turned x) (map turned xs)) ∙ fold_turned x xs)
    ∙ turned_twice (fold int_min x xs))

pub least_none_of : (ns : List ℤ) → IsGreatestOf (map turned ns) None → field.Empty ≡ least_field ns
least_none_of [] is = refl
least_none_of (x ∷ xs) is = absurd (let m = fold int_max (turned x) (map turned xs) in let e = is (m -ℤ pos 1) in let f = lower m in let g = above_fold (m -ℤ pos 1) (turned x) (map turned xs) in cc)

-- ROWS THAT GO

pub last_weaker : (kept : LastingRows) (floor later : ℤ) (rows : List Lasting) → floor ≤ℤ later → LastFor kept floor rows → LastFor kept later rows
last_weaker kept floor later rows l last = record {
  same = λ now n m. last.same now n (omega (arith, ints));
  cover = λ now n m. last.cover now n (omega (arith, ints));
}

-- one that has ended goes by itself
pub last_without : (kept : LastingRows) (floor : ℤ) (row : Lasting) (fewer more : List Lasting) → Inserts row fewer more → row.end ≤ℤ floor → LastFor kept floor more → LastFor kept floor fewer
last_without kept floor row fewer more ins end last = record {
  same = λ now n l. last.same now n l ∙ less now n l;
  cover = λ now n l. ap (λ b. cover_above now n kept.cover && not b) (sym (less now n l)) ∙ last.cover now n l;
} where
  less : (now n : ℤ) → floor ≤ℤ now → have_above now n more ≡ have_above now n fewer
  less now n l = above_more now n row fewer more ins ∙ ap (λ b. b || have_above now n fewer) (ended now n row (omega (arith, ints)))

pub inserts_mapped : (f : plain.Row → Lasting) (row : plain.Row) (fewer more : List plain.Row) → Inserts row fewer more → Inserts (f row) (map f fewer) (map f more)
inserts_mapped f row fewer more ins = record {
  front = map f ins.front;
  back = map f ins.back;
  without = ap (map f) ins.without ∙ map-append f ins.front ins.back;
  with = ap (map f) ins.with ∙ map-append f ins.front (row ∷ ins.back);
}

-- LEAST AND GREATEST NUMBERS

sooner_covered : (cover : Option Lasting) (value end sooner : ℤ) → sooner ≤ℤ end → covers cover (record { value = value; end = end }) ≡ true → covers cover (record { value = value; end = sooner }) ≡ true
sooner_covered None value end sooner l e = e
sooner_covered (Some c) value end sooner l e = grind (arith, ints)

pub comes_covered : (e : ExtremeOf) (number value end sooner : ℤ) → value ≡ ordered e.kind number → covers e.kept.cover (record { value = value; end = end }) ≡ true → sooner ≤ℤ end → Comes e e number sooner
comes_covered e number value end sooner is covered l = record {
  kind = refl;
  takes = subst (λ v. Takes e.kept e.kept (record { value = v; end = sooner })) is
      (takes_covered e.kept (record { value = value; end = sooner }) (sooner_covered e.kept.cover value end sooner l covered));
}

pub comes_put : (old new : ExtremeOf) (number value end last : ℤ) → new.kind ≡ old.kind → value ≡ ordered old.kind number → last ≡ end → Takes old.kept new.kept (record { value = value; end = last }) → Comes old new number end
comes_put old new number value end last kind is end_is takes = record {
  kind = kind;
  takes = subst (λ v. Takes old.kept new.kept (record { value = v; end = end })) is
      (subst (λ n. Takes old.kept new.kept (record { value = value; end = n })) end_is takes);
}

last_above : (now n : ℤ) (k : AggKind) (column : Option ℕ) (ends : plain.Row → ℤ) (rows : List plain.Row) → AllLast now ends rows → have_above now n (map (lasting_of k column ends) rows) ≡ are_above n (map (ordered k) (map (number_in column) rows))
last_above now n k column ends [] lasts = refl
last_above now n k column ends (r ∷ rows) lasts =
    let l = lasts.0 in
    let t : int_lt now (ends r) ≡ true = grind (arith, ints) in
    ap (λ b. (b && int_lt n (ordered k (number_in column r))) || have_above now n (map (lasting_of k column ends) rows)) t
    ∙ ap (λ b. int_lt n (ordered k (number_in column r)) || b) (last_above now n k column ends rows lasts.1)

greatest_numbers : (now : ℤ) (k : AggKind) (column : Option ℕ) (ends : plain.Row → ℤ) (rows : List plain.Row) (value : Option ℤ) → AllLast now ends rows → IsGreatestAt now (map (lasting_of k column ends) rows) value
    → IsGreatestOf (map (ordered k) (map (number_in column) rows)) value
greatest_numbers now k column ends rows None lasts is = λ n. sym (last_above now n k column ends rows lasts) ∙ is n
greatest_numbers now k column ends rows (Some v) lasts is = λ n. sym (last_above now n k column ends rows lasts) ∙ is n

pub max_ordered : (ns : List ℤ) → map (ordered kind.Max) ns ≡ ns
max_ordered [] = refl
max_ordered (n ∷ ns) = ap (λ ms. n ∷ ms) (max_ordered ns)

pub min_ordered : (ns : List ℤ) → map (ordered kind.Min) ns ≡ map turned ns
min_ordered [] = refl
min_ordered (n ∷ ns) = ap (λ ms. turned n ∷ ms) (min_ordered ns)

pub value_told : (e : ExtremeOf) (now : ℤ) (value : Option ℤ) (told_field : Field)
    → ((floor : ℤ) (rows : List Lasting) → LastFor e.kept floor rows → floor ≤ℤ now → IsGreatestAt now rows value)
    → ((column : Option ℕ) (rows : List plain.Row) → is_ordered e.kind ≡ true → IsGreatestOf (map (ordered e.kind) (map (number_in column) rows)) value → Suits e.kind column rows → told_field ≡ aggregate_of e.kind column rows)
    → TellsExtreme e now told_field
value_told e now value told_field greatest told floor column ends rows is stands l lasts suits =
    told column rows is (greatest_numbers now e.kind column ends rows value lasts (greatest floor (map (lasting_of e.kind column ends) rows) stands l)) suits
