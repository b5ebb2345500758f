-- Values in order, each once: two such lists of the same values are one; those that give something.
use Rattle.std.proofs.Common.{◌≡◌, ◌++◌, Bool, true, false, ◌&&◌, ◌||◌, not, cond, List, [], ◌∷◌, refl, sym, ap, subst, ◌∙◌}
use Rattle.std.specs.List.{filter, flat_map, fold, AllByRecursion}
use Rattle.std.proofs.lemmas.Map.Views.{any-filter_same}
use Rattle.tl_types.specs.declared.cells.Cell.{Cell}
use Rattle.tl_types.specs.History.{same_cell}
use Rattle.tl_query.specs.Ordered.{cell_before, inserted, with_value, has, Rises}
use Rattle.tl_query.proofs.Sorting.{all_inserted}
use Rattle.tl_query.proofs.CellOrder.{cell_ranks, cell_symm, cell_level, cell_equal, cell_itself}

pub or_turn : (a b c : Bool) → (a || (b || c)) ≡ (b || (a || c))
or_turn true true c = refl
or_turn true false c = refl
or_turn false true c = refl
or_turn false false c = refl

pub or_twice : (a b : Bool) → (a ≡ true → b ≡ true) → b ≡ (a || b)
or_twice true b h = h refl
or_twice false b h = refl

pub before_apart : (x y : Cell) → cell_before x y ≡ true → same_cell y x ≡ false
before_apart x y h = sym (cell_level y x) ∙ ap (λ b. not (cell_before y x) && not b) h ∙ and_false (not (cell_before y x)) where
  and_false : (b : Bool) → (b && false) ≡ false
  and_false true = refl
  and_false false = refl

pub before_other : (x y : Cell) → same_cell y x ≡ false → cell_before y x ≡ false → cell_before x y ≡ true
before_other x y h k = by_test (cell_before x y) refl where
  by_test : (b : Bool) → cell_before x y ≡ b → b ≡ true
  by_test true e = refl
  by_test false e = absurd (let f : (not (cell_before y x) && not (cell_before x y)) ≡ true = rw (k, e) refl in let g = cell_level y x in cc)

pub before_third : (x y z : Cell) → cell_before x y ≡ true → cell_before y z ≡ true → cell_before x z ≡ true
before_third x y z h k = by_test (cell_before x z) refl where
  by_test : (b : Bool) → cell_before x z ≡ b → b ≡ true
  by_test true e = refl
  by_test false e = absurd (let f = cell_ranks.chain x z y e (cell_ranks.one_way y z k) in cc)

pub above_has : (x : Cell) (ys : List Cell) → AllByRecursion (λ y. cell_before x y ≡ true) ys → has ys x ≡ false
above_has x [] all = refl
above_has x (y ∷ ys) all = rw (before_apart x y all.0) (above_has x ys all.1)

pub of_member : (P : Cell → Type 0) (x : Cell) (ys : List Cell) → AllByRecursion P ys → has ys x ≡ true → P x
of_member P x [] all h = absurd (cc)
of_member P x (y ∷ ys) all h = by_test (same_cell y x) refl h (of_member P x ys all.1) where
  by_test : (b : Bool) → same_cell y x ≡ b → (b || has ys x) ≡ true → (has ys x ≡ true → P x) → P x
  by_test true e h later = let same = cell_equal y x e in subst P same all.0
  by_test false e h later = later h

-- two such lists that have the same values are one list
pub values_same : (xs ys : List Cell) → Rises xs → Rises ys → ((z : Cell) → has xs z ≡ has ys z) → xs ≡ ys
values_same [] [] a b h = refl
values_same [] (y ∷ ys) a b h = absurd (let e = h y in let self : has (y ∷ ys) y ≡ true = rw (cell_itself y) refl in cc)
values_same (x ∷ xs) [] a b h = absurd (let e = h x in let self : has (x ∷ xs) x ≡ true = rw (cell_itself x) refl in cc)
values_same (x ∷ xs) (y ∷ ys) a b h = first_is (first (same_cell x y) refl) (values_same xs ys a.1 b.1) where
  among : (u v : Cell) (us vs : List Cell) → (has (u ∷ us) u ≡ has (v ∷ vs) u) → same_cell v u ≡ false → has vs u ≡ true
  among u v us vs e apart =
      let self : has (u ∷ us) u ≡ true = rw (cell_itself u) refl in
      let other : has (v ∷ vs) u ≡ has vs u = rw apart refl in
      cc

  first : (t : Bool) → same_cell x y ≡ t → x ≡ y
  first true e = cell_equal x y e
  first false e = absurd (
      let low = of_member (λ z. cell_before y z ≡ true) x ys b.0 (among x y xs ys (h x) (cell_symm y x ∙ e)) in
      let high = of_member (λ z. cell_before x z ≡ true) y xs a.0 (among y x ys xs (sym (h y)) e) in
      let against = cell_ranks.one_way x y high in
      cc)

  rest : x ≡ y → (z : Cell) (t : Bool) → same_cell x z ≡ t → has xs z ≡ has ys z
  rest same z true e =
      let is = cell_equal x z e in
      let left : has xs z ≡ false = ap (has xs) (sym is) ∙ above_has x xs a.0 in
      let right : has ys z ≡ false = ap (has ys) (sym is ∙ same) ∙ above_has y ys b.0 in
      cc
  rest same z false e =
      let whole = h z in
      let left : has (x ∷ xs) z ≡ has xs z = rw e refl in
      let apart : same_cell y z ≡ false = ap (λ c. same_cell c z) (sym same) ∙ e in
      let right : has (y ∷ ys) z ≡ has ys z = rw apart refl in
      cc

  first_is : x ≡ y → (((z : Cell) → has xs z ≡ has ys z) → xs ≡ ys) → x ∷ xs ≡ y ∷ ys
  first_is same later = let tail = later (λ z. rest same z (same_cell x z) refl) in cc

-- THE VALUES OF THE DEFINITION

pub has_inserted : (z x : Cell) (ys : List Cell) → has (inserted cell_before x ys) z ≡ (same_cell x z || has ys z)
has_inserted z x [] = refl
has_inserted z x (y ∷ ys) = by_test (cell_before y x) (has_inserted z x ys) where
  by_test : (b : Bool) → has (inserted cell_before x ys) z ≡ (same_cell x z || has ys z) → has (cond b (y ∷ inserted cell_before x ys) (x ∷ y ∷ ys)) z ≡ (same_cell x z || (same_cell y z || has ys z))
  by_test true later = ap (λ b. same_cell y z || b) later ∙ or_turn (same_cell y z) (same_cell x z) (has ys z)
  by_test false later = refl

pub all_third : (x y : Cell) (zs : List Cell) → cell_before x y ≡ true → AllByRecursion (λ z. cell_before y z ≡ true) zs → AllByRecursion (λ z. cell_before x z ≡ true) zs
all_third x y [] h all = tt
all_third x y (z ∷ zs) h all = (before_third x y z h all.0, all_third x y zs h all.1)

pub rises_inserted : (x : Cell) (ys : List Cell) → has ys x ≡ false → Rises ys → Rises (inserted cell_before x ys)
rises_inserted x [] new up = (tt, tt)
rises_inserted x (y ∷ ys) new up = by_test (cell_before y x) refl (rises_inserted x ys (parts (same_cell y x) (has ys x) new).1 up.1) where
  parts : (a b : Bool) → (a || b) ≡ false → (a ≡ false) × (b ≡ false)
  parts true b h = absurd (cc)
  parts false b h = (refl, h)

  by_test : (b : Bool) → cell_before y x ≡ b → Rises (inserted cell_before x ys) → Rises (cond b (y ∷ inserted cell_before x ys) (x ∷ y ∷ ys))
  by_test true e later = (all_inserted cell_before (λ z. cell_before y z ≡ true) x ys e up.0, later)
  by_test false e later = let low = before_other x y (parts (same_cell y x) (has ys x) new).0 e in ((low, all_third x y ys low up.0), up)

pub has_with : (z x : Cell) (values : List Cell) → has (with_value values x) z ≡ (same_cell x z || has values z)
has_with z x values = by_test (has values x) refl where
  by_test : (b : Bool) → has values x ≡ b → has (cond b values (inserted cell_before x values)) z ≡ (same_cell x z || has values z)
  by_test true e = or_twice (same_cell x z) (has values z) (λ h. ap (has values) (sym (cell_equal x z h)) ∙ e)
  by_test false e = has_inserted z x values

pub rises_with : (x : Cell) (values : List Cell) → Rises values → Rises (with_value values x)
rises_with x values up = by_test (has values x) refl where
  by_test : (b : Bool) → has values x ≡ b → Rises (cond b values (inserted cell_before x values))
  by_test true e = up
  by_test false e = rises_inserted x values e up

pub has_fold : (z : Cell) (values xs : List Cell) → has (fold with_value values xs) z ≡ (has xs z || has values z)
has_fold z values [] = refl
has_fold z values (x ∷ xs) = has_fold z (with_value values x) xs ∙ ap (λ b. has xs z || b) (has_with z x values) ∙ or_turn (has xs z) (same_cell x z) (has values z) ∙ assoc (same_cell x z) (has xs z) (has values z) where
  assoc : (a b c : Bool) → (a || (b || c)) ≡ ((a || b) || c)
  assoc true b c = refl
  assoc false b c = refl

pub rises_fold : (values xs : List Cell) → Rises values → Rises (fold with_value values xs)
rises_fold values [] up = up
rises_fold values (x ∷ xs) up = rises_fold (with_value values x) xs (rises_with x values up)

-- VALUES THAT GIVE NOTHING

pub has_filter : (P : Cell → Bool) (xs : List Cell) (z : Cell) → has (filter P xs) z ≡ (P z && has xs z)
has_filter P xs z = any-filter_same (λ y. same_cell y z) P (P z) (λ y h. ap P (cell_equal y z h)) xs

pub all_filter : {X : Type 0} (Q : X → Type 0) (P : X → Bool) (xs : List X) → AllByRecursion Q xs → AllByRecursion Q (filter P xs)
all_filter Q P [] all = tt
all_filter Q P (x ∷ xs) all = by_test (P x) (all_filter Q P xs all.1) where
  by_test : (b : Bool) → AllByRecursion Q (filter P xs) → AllByRecursion Q (cond b (x ∷ filter P xs) (filter P xs))
  by_test true h = (all.0, h)
  by_test false h = h

pub rises_filter : (P : Cell → Bool) (xs : List Cell) → Rises xs → Rises (filter P xs)
rises_filter P [] up = tt
rises_filter P (x ∷ xs) up = by_test (P x) (rises_filter P xs up.1) where
  by_test : (b : Bool) → Rises (filter P xs) → Rises (cond b (x ∷ filter P xs) (filter P xs))
  by_test true h = (all_filter (λ y. cell_before x y ≡ true) P xs up.0, h)
  by_test false h = h

module _ {Y : Type 0} (G : Cell → List Y) where
  pub flat_filter : (P : Cell → Bool) (xs : List Cell) → ((z : Cell) → P z ≡ false → G z ≡ []) → flat_map G (filter P xs) ≡ flat_map G xs
  flat_filter P [] none = refl
  flat_filter P (x ∷ xs) none = by_test (P x) refl (flat_filter P xs none) where
    by_test : (b : Bool) → P x ≡ b → flat_map G (filter P xs) ≡ flat_map G xs → flat_map G (cond b (x ∷ filter P xs) (filter P xs)) ≡ G x ++ flat_map G xs
    by_test true e h = ap (λ ys. G x ++ ys) h
    by_test false e h = h ∙ sym (ap (λ ys. ys ++ flat_map G xs) (none x e))

  -- two lists of values give the same, where a value that one of them lacks gives nothing
  pub given_by_both : (some other : List Cell) → ((z : Cell) → has some z ≡ false → G z ≡ []) → ((z : Cell) → has other z ≡ false → G z ≡ []) → flat_map G (fold with_value [] some) ≡ flat_map G (fold with_value [] other)
  given_by_both some other none none_other =
      sym (flat_filter (has other) (fold with_value [] some) none_other)
      ∙ ap (flat_map G) (values_same (filter (has other) (fold with_value [] some)) (filter (has some) (fold with_value [] other)) (rises_filter (has other) (fold with_value [] some) (rises_fold [] some tt)) (rises_filter (has some) (fold with_value [] other) (rises_fold [] other tt)) members)
      ∙ flat_filter (has some) (fold with_value [] other) none where
        or_false : (b : Bool) → (b || false) ≡ b
        or_false true = refl
        or_false false = refl

        and_turn : (a b : Bool) → (a && b) ≡ (b && a)
        and_turn true true = refl
        and_turn true false = refl
        and_turn false true = refl
        and_turn false false = refl

        members : (z : Cell) → has (filter (has other) (fold with_value [] some)) z ≡ has (filter (has some) (fold with_value [] other)) z
        members z =
            has_filter (has other) (fold with_value [] some) z ∙ ap (λ b. has other z && b) (has_fold z [] some ∙ or_false (has some z)) ∙ and_turn (has other z) (has some z)
            ∙ ap (λ b. has some z && b) (sym (has_fold z [] other ∙ or_false (has other z))) ∙ sym (has_filter (has some) (fold with_value [] other) z)
