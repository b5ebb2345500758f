-- Runs that are cut at an event: what is before it and what is behind it are merged on their own.
use Rattle.std.proofs.Common.{◌≡◌, ℕ, zero, suc, ◌+◌, ◌<◌, Bool, true, false, cond, List, [], ◌∷◌, ◌++◌, length, take, drop, get_or, slice_index_or, refl, sym, ap, ◌∙◌, subst, arith, append_assoc}
use Rattle.std.specs.Borrow.{Bor}
use Rattle.std.specs.List.{AllByRecursion}
use Rattle.std.proofs.lemmas.List.{take-append-drop, map-append}
use Rattle.tl_types.specs.declared.events.ValidEvent.{ValidEvent}
use Rattle.tl_types.specs.Checkpoints.{comes_before}
use Rattle.tl_types.proofs.ValidEventOrder.{same_event, one_way, third, other, equal}
use Rattle.tl_ckpt.specs.Valid.{Rises, passed, left_of, merged, lead}
use Rattle.tl_ckpt.specs.Runs.{sum_of, AllRise, lent, fronts, backs}
use Rattle.tl_ckpt.proofs.Members.{Above, all_merged}
use Rattle.tl_ckpt.proofs.Merging.{drop_step}
use Rattle.tl_ckpt.proofs.RunLemmas.{rises_front, rise_at}

-- all come before the event
abbrev Lows : ValidEvent → List ValidEvent → Type 0
Lows e xs = AllByRecursion (λ x. comes_before x e ≡ true) xs

-- none comes before it
abbrev Highs : ValidEvent → List ValidEvent → Type 0
Highs e xs = AllByRecursion (λ x. comes_before x e ≡ false) xs

-- what comes before the event comes before what does not
between : (x e y : ValidEvent) → comes_before x e ≡ true → comes_before y e ≡ false → comes_before x y ≡ true
between x e y low high = by_test (same_event y e) refl where
  by_test : (b : Bool) → same_event y e ≡ b → comes_before x y ≡ true
  by_test true same = ap (comes_before x) (equal y e same) ∙ low
  by_test false apart = third x e y low (other y e apart high)

low_front : (e : ValidEvent) (xs : List ValidEvent) → Lows e (take (lead e xs) xs)
low_front e [] = tt
low_front e (x ∷ xs) = by_test (comes_before x e) refl (low_front e xs) where
  by_test : (b : Bool) → comes_before x e ≡ b → Lows e (take (lead e xs) xs) → Lows e (take (cond b (suc (lead e xs)) 0) (x ∷ xs))
  by_test true h later = (h, later)
  by_test false h later = tt

high_above : (e x : ValidEvent) (xs : List ValidEvent) → comes_before x e ≡ false → Above x xs → Highs e xs
high_above e x [] h all = tt
high_above e x (y ∷ ys) h all = (by_test (comes_before y e) refl, high_above e x ys h all.1) where
  by_test : (b : Bool) → comes_before y e ≡ b → comes_before y e ≡ false
  by_test false g = g
  by_test true g = absurd (let low = third x y e all.0 g in cc)

high_back : (e : ValidEvent) (xs : List ValidEvent) → Rises xs → Highs e (drop (lead e xs) xs)
high_back e [] up = tt
high_back e (x ∷ xs) up = by_test (comes_before x e) refl (high_back e xs up.1) where
  by_test : (b : Bool) → comes_before x e ≡ b → Highs e (drop (lead e xs) xs) → Highs e (drop (cond b (suc (lead e xs)) 0) (x ∷ xs))
  by_test true h later = later
  by_test false h later = (h, high_above e x xs h up.0)

-- A CHANGE BEFORE WHAT IS BEHIND

pass_low : (e c : ValidEvent) (a b : List ValidEvent) → comes_before c e ≡ true → Highs e b → passed c (a ++ b) ≡ passed c a
pass_low e c [] [] low high = refl
pass_low e c [] (y ∷ ys) low high = let before = between c e y low high.0 in let after = one_way c y before in rw (after, before) refl
pass_low e c (x ∷ xs) b low high = ap (λ zs. cond (comes_before x c) (x ∷ zs) (cond (comes_before c x) (c ∷ []) [])) (pass_low e c xs b low high)

left_low : (e c : ValidEvent) (a b : List ValidEvent) → comes_before c e ≡ true → Highs e b → left_of c (a ++ b) ≡ left_of c a ++ b
left_low e c [] [] low high = refl
left_low e c [] (y ∷ ys) low high = let before = between c e y low high.0 in let after = one_way c y before in rw (after, before) refl
left_low e c (x ∷ xs) b low high = by_tests (comes_before x c) (comes_before c x) (left_low e c xs b low high) where
  by_tests : (p q : Bool) → left_of c (xs ++ b) ≡ left_of c xs ++ b → cond p (left_of c (xs ++ b)) (cond q (x ∷ (xs ++ b)) (xs ++ b)) ≡ cond p (left_of c xs) (cond q (x ∷ xs) xs) ++ b
  by_tests true q later = later
  by_tests false true later = refl
  by_tests false false later = refl

lows_left : (e c : ValidEvent) (xs : List ValidEvent) → Lows e xs → Lows e (left_of c xs)
lows_left e c [] all = tt
lows_left e c (x ∷ xs) all = by_tests (comes_before x c) (comes_before c x) (lows_left e c xs all.1) where
  by_tests : (p q : Bool) → Lows e (left_of c xs) → Lows e (cond p (left_of c xs) (cond q (x ∷ xs) xs))
  by_tests true q later = later
  by_tests false true later = all
  by_tests false false later = all.1

-- A CHANGE BEHIND WHAT IS BEFORE

pass_high : (e c : ValidEvent) (a b : List ValidEvent) → comes_before c e ≡ false → Lows e a → passed c (a ++ b) ≡ a ++ passed c b
pass_high e c [] b high low = refl
pass_high e c (x ∷ xs) b high low = let before = between x e c low.0 high in rw before (ap (λ zs. x ∷ zs) (pass_high e c xs b high low.1))

left_high : (e c : ValidEvent) (a b : List ValidEvent) → comes_before c e ≡ false → Lows e a → left_of c (a ++ b) ≡ left_of c b
left_high e c [] b high low = refl
left_high e c (x ∷ xs) b high low = let before = between x e c low.0 high in rw before (left_high e c xs b high low.1)

merged_high : (e : ValidEvent) (a b d : List ValidEvent) → Lows e a → Highs e d → merged (a ++ b) d ≡ a ++ merged b d
merged_high e a b [] low high = refl
merged_high e a b (c ∷ cs) low high =
    ap (λ zs. zs ++ merged (left_of c (a ++ b)) cs) (pass_high e c a b high.0 low)
    ∙ ap (λ zs. (a ++ passed c b) ++ merged zs cs) (left_high e c a b high.0 low)
    ∙ append_assoc a (passed c b) (merged (left_of c b) cs)

-- THE CUT

merged_cut : (e : ValidEvent) (a b c d : List ValidEvent) → Lows e a → Highs e b → Lows e c → Highs e d → merged (a ++ b) (c ++ d) ≡ merged a c ++ merged b d
merged_cut e a b [] d la hb lc hd = merged_high e a b d la hd
merged_cut e a b (t ∷ ts) d la hb lc hd =
    ap (λ zs. zs ++ merged (left_of t (a ++ b)) (ts ++ d)) (pass_low e t a b lc.0 hb)
    ∙ ap (λ zs. passed t a ++ merged zs (ts ++ d)) (left_low e t a b lc.0 hb)
    ∙ ap (λ zs. passed t a ++ zs) (merged_cut e (left_of t a) b ts d (lows_left e t a la) hb lc.1 hd)
    ∙ sym (append_assoc (passed t a) (merged (left_of t a) ts) (merged b d))

low_sum : (e : ValidEvent) (runs : List (List ValidEvent)) → Lows e (sum_of (fronts e runs))
low_sum e [] = tt
low_sum e (run ∷ runs) = all_merged (λ x. comes_before x e ≡ true) (sum_of (fronts e runs)) (take (lead e run) run) (low_sum e runs) (low_front e run)

high_sum : (e : ValidEvent) (runs : List (List ValidEvent)) → AllRise runs → Highs e (sum_of (backs e runs))
high_sum e [] up = tt
high_sum e (run ∷ runs) up = all_merged (λ x. comes_before x e ≡ false) (sum_of (backs e runs)) (drop (lead e run) run) (high_sum e runs up.1) (high_back e run up.0)

pub sum_cut : (e : ValidEvent) (runs : List (List ValidEvent)) → AllRise runs → sum_of runs ≡ sum_of (fronts e runs) ++ sum_of (backs e runs)
sum_cut e [] up = refl
sum_cut e (run ∷ runs) up =
    ap (λ zs. merged zs run) (sum_cut e runs up.1)
    ∙ ap (merged (sum_of (fronts e runs) ++ sum_of (backs e runs))) (sym (take-append-drop (lead e run) run))
    ∙ merged_cut e (sum_of (fronts e runs)) (sum_of (backs e runs)) (take (lead e run) run) (drop (lead e run) run) (low_sum e runs) (high_sum e runs up.1) (low_front e run) (high_back e run up.0)

pub fronts_rise : (e : ValidEvent) (runs : List (List ValidEvent)) → AllRise runs → AllRise (fronts e runs)
fronts_rise e [] up = tt
fronts_rise e (run ∷ runs) up = (rises_front (lead e run) run up.0, fronts_rise e runs up.1)

rises_back : (n : ℕ) (xs : List ValidEvent) → Rises xs → Rises (drop n xs)
rises_back zero xs up = up
rises_back (suc n) [] up = tt
rises_back (suc n) (x ∷ xs) up = rises_back n xs up.1

pub backs_rise : (e : ValidEvent) (runs : List (List ValidEvent)) → AllRise runs → AllRise (backs e runs)
backs_rise e [] up = tt
backs_rise e (run ∷ runs) up = (rises_back (lead e run) run up.0, backs_rise e runs up.1)

-- LENT RUNS

pub lent_at : (runs : List (Bor (List ValidEvent))) (i : ℕ) (d : Bor (List ValidEvent)) → get_or (lent runs) i d.now ≡ (slice_index_or runs i d).now
lent_at [] i d = refl
lent_at (run ∷ runs) zero d = refl
lent_at (run ∷ runs) (suc i) d = lent_at runs i d

pub lent_length : (runs : List (Bor (List ValidEvent))) → length (lent runs) ≡ length runs
lent_length [] = refl
lent_length (run ∷ runs) = ap suc (lent_length runs)

pub lent_rises : (runs : List (Bor (List ValidEvent))) (i : ℕ) (d : Bor (List ValidEvent)) → AllRise (lent runs) → i < length runs → Rises (slice_index_or runs i d).now
lent_rises runs i d up l =
    let all = lent_length runs in
    subst Rises (lent_at runs i d) (rise_at (lent runs) i d.now up (omega (arith, all, l)))

lent_step : (runs : List (Bor (List ValidEvent))) (i : ℕ) (d : Bor (List ValidEvent)) → i < length runs → drop i (lent runs) ≡ (slice_index_or runs i d).now ∷ drop (i + 1) (lent runs)
lent_step runs i d l =
    let same = lent_length runs in
    drop_step (lent runs) i d.now (omega (arith, same, l)) ∙ ap (λ xs. xs ∷ drop (i + 1) (lent runs)) (lent_at runs i d)

-- one run more is lent
lent_more : (before new : List (Bor (List ValidEvent))) (run : Bor (List ValidEvent)) (part : List ValidEvent) (later all : List (List ValidEvent)) → new ≡ before ++ run ∷ [] → run.now ≡ part → lent before ++ part ∷ later ≡ all → lent new ++ later ≡ all
lent_more before new run part later all new_is run_is was =
    ap (λ rs. lent rs ++ later) new_is ∙ ap (λ rs. rs ++ later) (map-append (λ (r : Bor (List ValidEvent)). r.now) before (run ∷ []))
    ∙ append_assoc (lent before) (run.now ∷ []) later ∙ ap (λ xs. lent before ++ xs ∷ later) run_is ∙ was

pub front_more : (e : ValidEvent) (runs before new : List (Bor (List ValidEvent))) (front : Bor (List ValidEvent)) (i : ℕ) (d : Bor (List ValidEvent)) → i < length runs → new ≡ before ++ front ∷ [] → front.now ≡ take (lead e (slice_index_or runs i d).now) (slice_index_or runs i d).now
    → lent before ++ fronts e (drop i (lent runs)) ≡ fronts e (lent runs) → lent new ++ fronts e (drop (i + 1) (lent runs)) ≡ fronts e (lent runs)
front_more e runs before new front i d l new_is front_is was =
    let run = (slice_index_or runs i d).now in
    lent_more before new front (take (lead e run) run) (fronts e (drop (i + 1) (lent runs))) (fronts e (lent runs)) new_is front_is (ap (λ rs. lent before ++ fronts e rs) (sym (lent_step runs i d l)) ∙ was)

pub back_more : (e : ValidEvent) (runs behind new : List (Bor (List ValidEvent))) (back : Bor (List ValidEvent)) (i : ℕ) (d : Bor (List ValidEvent)) → i < length runs → new ≡ behind ++ back ∷ [] → back.now ≡ drop (lead e (slice_index_or runs i d).now) (slice_index_or runs i d).now
    → lent behind ++ backs e (drop i (lent runs)) ≡ backs e (lent runs) → lent new ++ backs e (drop (i + 1) (lent runs)) ≡ backs e (lent runs)
back_more e runs behind new back i d l new_is back_is was =
    let run = (slice_index_or runs i d).now in
    lent_more behind new back (drop (lead e run) run) (backs e (drop (i + 1) (lent runs))) (backs e (lent runs)) new_is back_is (ap (λ rs. lent behind ++ backs e rs) (sym (lent_step runs i d l)) ∙ was)
