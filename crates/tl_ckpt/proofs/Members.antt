-- Lists of events in order: two with the same members are one list.
use Rattle.std.proofs.Common.{◌≡◌, Bool, true, false, ◌||◌, not, cond, List, [], ◌∷◌, ◌++◌, refl, sym, ap, ◌∙◌, subst}
use Rattle.std.specs.Bool.{beq, ⊤}
use Rattle.std.specs.List.{list_any, fold, AllByRecursion}
use Rattle.tl_types.specs.declared.events.ValidEvent.{ValidEvent}
use Rattle.tl_types.specs.Checkpoints.{comes_before, inserted, in_order}
use Rattle.tl_ckpt.specs.Valid.{Rises, passed, left_of, merged}
use Rattle.tl_types.proofs.ValidEventOrder.{same_event, one_way, third, apart, other, itself, symm, equal}

-- the event is among them
abbrev pub has : List ValidEvent → ValidEvent → Bool
has events z = list_any (λ y. same_event y z) events

-- all come after the event
abbrev pub Above : ValidEvent → List ValidEvent → Type 0
Above x ys = AllByRecursion (λ y. comes_before x y ≡ true) ys

pub or_parts : (a b : Bool) → (a || b) ≡ false → (a ≡ false) × (b ≡ false)
or_parts true b h = absurd (cc)
or_parts false b h = (refl, h)

or_turn : (a b c : Bool) → (a || (b || c)) ≡ (b || (a || c))
or_turn true true c = refl
or_turn true false c = refl
or_turn false b c = refl

pub above_has : (x : ValidEvent) (ys : List ValidEvent) → Above x ys → has ys x ≡ false
above_has x [] all = refl
above_has x (y ∷ ys) all = rw (apart x y all.0) (above_has x ys all.1)

pub above_more : (x y : ValidEvent) (zs : List ValidEvent) → comes_before x y ≡ true → Above y zs → Above x zs
above_more x y [] h all = tt
above_more x y (z ∷ zs) h all = (third x y z h all.0, above_more x y zs h all.1)

of_member : (P : ValidEvent → Type 0) (x : ValidEvent) (ys : List ValidEvent) → AllByRecursion P ys → has ys x ≡ true → P x
of_member P x [] all h = absurd (cc)
of_member P x (y ∷ ys) all h = by_test (same_event y x) refl h (of_member P x ys all.1) where
  by_test : (b : Bool) → same_event y x ≡ b → (b || has ys x) ≡ true → (has ys x ≡ true → P x) → P x
  by_test true e h later = let same = equal y x e in subst P same all.0
  by_test false e h later = later h

-- two such lists that have the same members are one list
pub members_same : (xs ys : List ValidEvent) → Rises xs → Rises ys → ((z : ValidEvent) → has xs z ≡ has ys z) → xs ≡ ys
members_same [] [] a b h = refl
members_same [] (y ∷ ys) a b h = absurd (let e = h y in let self : has (y ∷ ys) y ≡ true = rw (itself y) refl in cc)
members_same (x ∷ xs) [] a b h = absurd (let e = h x in let self : has (x ∷ xs) x ≡ true = rw (itself x) refl in cc)
members_same (x ∷ xs) (y ∷ ys) a b h = first_is (first (same_event x y) refl) (members_same xs ys a.1 b.1) where
  among : (u v : ValidEvent) (us vs : List ValidEvent) → (has (u ∷ us) u ≡ has (v ∷ vs) u) → same_event v u ≡ false → has vs u ≡ true
  among u v us vs e apart =
      let self : has (u ∷ us) u ≡ true = rw (itself u) refl in
      let other : has (v ∷ vs) u ≡ has vs u = rw apart refl in
      cc

  first : (t : Bool) → same_event x y ≡ t → x ≡ y
  first true e = equal x y e
  first false e = absurd (
      let low = of_member (λ z. comes_before y z ≡ true) x ys b.0 (among x y xs ys (h x) (symm y x ∙ e)) in
      let high = of_member (λ z. comes_before x z ≡ true) y xs a.0 (among y x ys xs (sym (h y)) e) in
      let against = one_way x y high in
      cc)

  rest : x ≡ y → (z : ValidEvent) (t : Bool) → same_event x z ≡ t → has xs z ≡ has ys z
  rest same z true e =
      let is = equal x z e in
      let left : has xs z ≡ false = ap (has xs) (sym is) ∙ above_has x xs a.0 in
      let right : has ys z ≡ false = ap (has ys) (sym is ∙ same) ∙ above_has y ys b.0 in
      cc
  rest same z false e =
      let whole = h z in
      let left : has (x ∷ xs) z ≡ has xs z = rw e refl in
      let apart : same_event y z ≡ false = ap (λ c. same_event c z) (sym same) ∙ e in
      let right : has (y ∷ ys) z ≡ has ys z = rw apart refl in
      cc

  first_is : x ≡ y → (((z : ValidEvent) → has xs z ≡ has ys z) → xs ≡ ys) → x ∷ xs ≡ y ∷ ys
  first_is same later = let tail = later (λ z. rest same z (same_event x z) refl) in cc

-- IN ORDER

pub has_inserted : (z x : ValidEvent) (ys : List ValidEvent) → has (inserted x ys) z ≡ (same_event x z || has ys z)
has_inserted z x [] = refl
has_inserted z x (y ∷ ys) = by_test (comes_before y x) (has_inserted z x ys) where
  by_test : (b : Bool) → has (inserted x ys) z ≡ (same_event x z || has ys z) → has (cond b (y ∷ inserted x ys) (x ∷ y ∷ ys)) z ≡ (same_event x z || (same_event y z || has ys z))
  by_test true later = ap (λ b. same_event y z || b) later ∙ or_turn (same_event y z) (same_event x z) (has ys z)
  by_test false later = refl

all_inserted : (P : ValidEvent → Type 0) (x : ValidEvent) (ys : List ValidEvent) → P x → AllByRecursion P ys → AllByRecursion P (inserted x ys)
all_inserted P x [] p all = (p, tt)
all_inserted P x (y ∷ ys) p all = by_test (comes_before y x) (all_inserted P x ys p all.1) where
  by_test : (b : Bool) → AllByRecursion P (inserted x ys) → AllByRecursion P (cond b (y ∷ inserted x ys) (x ∷ y ∷ ys))
  by_test true later = (all.0, later)
  by_test false later = (p, all)

rises_inserted : (x : ValidEvent) (ys : List ValidEvent) → has ys x ≡ false → Rises ys → Rises (inserted x ys)
rises_inserted x [] new up = (tt, tt)
rises_inserted x (y ∷ ys) new up = by_test (comes_before y x) refl (rises_inserted x ys (or_parts (same_event y x) (has ys x) new).1 up.1) where
  by_test : (b : Bool) → comes_before y x ≡ b → Rises (inserted x ys) → Rises (cond b (y ∷ inserted x ys) (x ∷ y ∷ ys))
  by_test true e later = (all_inserted (λ z. comes_before y z ≡ true) x ys e up.0, later)
  by_test false e later = let low = other y x (or_parts (same_event y x) (has ys x) new).0 e in ((low, above_more x y ys low up.0), up)

-- no event is there twice
abbrev pub Distinct : List ValidEvent → Type 0
Distinct [] = ⊤
Distinct (x ∷ xs) = (has xs x ≡ false) × Distinct xs

has_fold : (z : ValidEvent) (ys xs : List ValidEvent) → has (fold (λ us x. inserted x us) ys xs) z ≡ (has xs z || has ys z)
has_fold z ys [] = refl
has_fold z ys (x ∷ xs) = has_fold z (inserted x ys) xs ∙ ap (λ b. has xs z || b) (has_inserted z x ys) ∙ or_turn (has xs z) (same_event x z) (has ys z) ∙ assoc (same_event x z) (has xs z) (has ys z) where
  assoc : (a b c : Bool) → (a || (b || c)) ≡ ((a || b) || c)
  assoc true b c = refl
  assoc false b c = refl

pub has_in_order : (z : ValidEvent) (xs : List ValidEvent) → has (in_order xs) z ≡ has xs z
has_in_order z xs = has_fold z [] xs ∙ or_false (has xs z) where
  or_false : (b : Bool) → (b || false) ≡ b
  or_false true = refl
  or_false false = refl

rises_fold : (ys xs : List ValidEvent) → Rises ys → Distinct xs → ((z : ValidEvent) → has xs z ≡ true → has ys z ≡ false) → Rises (fold (λ us x. inserted x us) ys xs)
rises_fold ys [] up one new = up
rises_fold ys (x ∷ xs) up one new =
    rises_fold (inserted x ys) xs (rises_inserted x ys (new x (rw (itself x) refl)) up) one.1 (λ z h. has_inserted z x ys ∙ by_test z h (same_event x z) refl) where
      by_test : (z : ValidEvent) → has xs z ≡ true → (b : Bool) → same_event x z ≡ b → (b || has ys z) ≡ false
      by_test z h true e = absurd (let is = equal x z e in let f = ap (has xs) is in let g = one.0 in cc)
      by_test z h false e = new z (ap (λ b. b || has xs z) e ∙ h)

pub rises_in_order : (xs : List ValidEvent) → Distinct xs → Rises (in_order xs)
rises_in_order xs one = rises_fold [] xs tt one (λ z h. refl)

-- MERGING

abbrev pub xor : Bool → Bool → Bool
xor a b = not (beq a b)

all_step : (P : ValidEvent → Type 0) (t : ValidEvent) (ts : List ValidEvent) → ((es : List ValidEvent) → AllByRecursion P es → AllByRecursion P (merged es ts)) → P t → (events : List ValidEvent) → AllByRecursion P events → AllByRecursion P (passed t events ++ merged (left_of t events) ts)
all_step P t ts later p [] all = (p, later [] tt)
all_step P t ts later p (y ∷ ys) all = by_tests (comes_before y t) (comes_before t y) (all_step P t ts later p ys all.1) where
  by_tests : (a b : Bool) → AllByRecursion P (passed t ys ++ merged (left_of t ys) ts) → AllByRecursion P (cond a (y ∷ passed t ys) (cond b (t ∷ []) []) ++ merged (cond a (left_of t ys) (cond b (y ∷ ys) ys)) ts)
  by_tests true b behind = (all.0, behind)
  by_tests false true behind = (p, later (y ∷ ys) all)
  by_tests false false behind = later ys all.1

pub all_merged : (P : ValidEvent → Type 0) (events changes : List ValidEvent) → AllByRecursion P events → AllByRecursion P changes → AllByRecursion P (merged events changes)
all_merged P events [] all more = all
all_merged P events (t ∷ ts) all more = all_step P t ts (λ es h. all_merged P es ts h more.1) more.0 events all

-- what is there or is a change, and not both, in order
pub record IsMerged (events changes out : List ValidEvent) : Type 0 where
  pub rises : Rises out
  pub members : (z : ValidEvent) → has out z ≡ xor (has events z) (has changes z)

-- an event before all changes stays
stays : (t z : Bool) (events changes out : Bool) → out ≡ xor events changes → (t ≡ true → changes ≡ false) → (t ≡ true → events ≡ false) → (t || out) ≡ xor (t || events) changes
stays true z events changes out h k l = let e = k refl in let f = l refl in rw e refl
stays false z events changes out h k l = h

comes : (t events changes out : Bool) → out ≡ xor events changes → (t ≡ true → events ≡ false) → (t || out) ≡ xor events (t || changes)
comes true events changes out h k = let e = k refl in rw e refl
comes false events changes out h k = h

goes : (t events changes out : Bool) → out ≡ xor events changes → (t ≡ true → events ≡ false) → (t ≡ true → changes ≡ false) → out ≡ xor (t || events) (t || changes)
goes true events changes out h k l = let e = k refl in let f = l refl in h ∙ rw (e, f) refl
goes false events changes out h k l = h

-- what an event is above, it is not among
not_in : (x z : ValidEvent) (ys : List ValidEvent) → Above x ys → same_event x z ≡ true → has ys z ≡ false
not_in x z ys all e = let is = equal x z e in ap (has ys) (sym is) ∙ above_has x ys all

good_step : (t : ValidEvent) (ts : List ValidEvent) → Rises (t ∷ ts) → ((es : List ValidEvent) → Rises es → IsMerged es ts (merged es ts)) → (events : List ValidEvent) → Rises events → IsMerged events (t ∷ ts) (passed t events ++ merged (left_of t events) ts)
good_step t ts up later [] rises =
    let h = later [] tt in
    record {
      rises = (all_merged (λ y. comes_before t y ≡ true) [] ts tt up.0, h.rises);
      members = λ z. comes (same_event t z) false (has ts z) (has (merged [] ts) z) (h.members z) (λ e. refl);
    }
good_step t ts up later (y ∷ ys) rises = by_tests (comes_before y t) (comes_before t y) refl refl (good_step t ts up later ys rises.1) where
  equal_here : comes_before y t ≡ false → comes_before t y ≡ false → y ≡ t
  equal_here e f = by_test (same_event y t) refl where
    by_test : (b : Bool) → same_event y t ≡ b → y ≡ t
    by_test true g = equal y t g
    by_test false g = absurd (let h = other y t g e in cc)

  by_tests : (a b : Bool) → comes_before y t ≡ a → comes_before t y ≡ b → IsMerged ys (t ∷ ts) (passed t ys ++ merged (left_of t ys) ts) → IsMerged (y ∷ ys) (t ∷ ts) (cond a (y ∷ passed t ys) (cond b (t ∷ []) []) ++ merged (cond a (left_of t ys) (cond b (y ∷ ys) ys)) ts)
  by_tests true b e f h =
      let high : Above y (t ∷ ts) = (e, above_more y t ts e up.0) in
      record {
        rises = (all_step (λ w. comes_before y w ≡ true) t ts (λ es all. all_merged (λ w. comes_before y w ≡ true) es ts all high.1) high.0 ys rises.0, h.rises);
        members = λ z. stays (same_event y z) false (has ys z) (has (t ∷ ts) z) (has (passed t ys ++ merged (left_of t ys) ts) z) (h.members z) (λ g. not_in y z (t ∷ ts) high g) (λ g. not_in y z ys rises.0 g);
      }
  by_tests false true e f h =
      let k = later (y ∷ ys) rises in
      let high : Above t (y ∷ ys) = (f, above_more t y ys f rises.0) in
      record {
        rises = (all_merged (λ w. comes_before t w ≡ true) (y ∷ ys) ts high up.0, k.rises);
        members = λ z. comes (same_event t z) (has (y ∷ ys) z) (has ts z) (has (merged (y ∷ ys) ts) z) (k.members z) (λ g. not_in t z (y ∷ ys) high g);
      }
  by_tests false false e f h =
      let k = later ys rises.1 in
      let is = equal_here e f in
      record {
        rises = k.rises;
        members = λ z. goes (same_event y z) (has ys z) (has ts z) (has (merged ys ts) z) (k.members z) (λ g. not_in y z ys rises.0 g) (λ g. not_in t z ts up.0 (ap (λ w. same_event w z) (sym is) ∙ g)) ∙ ap (λ w. xor (same_event y z || has ys z) (same_event w z || has ts z)) is;
      }

pub good_merged : (events changes : List ValidEvent) → Rises events → Rises changes → IsMerged events changes (merged events changes)
good_merged events [] rises up = record { rises = rises; members = λ z. not_false (has events z) } where
  not_false : (b : Bool) → b ≡ xor b false
  not_false true = refl
  not_false false = refl
good_merged events (t ∷ ts) rises up = good_step t ts up (λ es h. good_merged es ts h up.1) events rises
