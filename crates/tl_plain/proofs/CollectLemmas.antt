-- The rows of an answer, and what is behind references, one item more at a time.
use Rattle.std.proofs.Common.{◌≡◌, ℕ, zero, suc, ◌+◌, ◌<◌, ◌≤◌, ℤ, Bool, true, false, not, ◌==◌, cond, List, [], ◌∷◌, ◌++◌, length, take, get_or, map, Option, Some, None, refl, sym, ap, ◌∙◌, arith, append_assoc}
use Rattle.std.proofs.lemmas.List.{take_more, take_all, map-append, append-nil, length-map}
use Rattle.std.proofs.lemmas.List.Elements.{filter-append, filter_map-append}
use Rattle.std.proofs.lemmas.List.Concat.{flat_map-append}
use Rattle.std.specs.Borrow.{Bor}
use Rattle.std.specs.List.{filter, filter_map, flat_map, cons_option}
use Rattle.tl_types.specs.declared.cells.Cell.{Cell}
use Rattle.tl_types.specs.declared.answers.Field.{Field}
use Rattle.tl_types.specs.declared.runs.Run.{Run}
use Rattle.tl_types.specs.Plain as plain
use Rattle.tl_query.specs.Aggregates.{in_group}
use Rattle.tl_query.specs.Answers.{run_fields}
use Rattle.tl_plain.specs.Choosing.{lent}

-- WHAT IS BEHIND REFERENCES

-- one item more of a list
pub taken_more : {X : Type 0} (xs : List X) (i : ℕ) (x : X) → i < length xs → x ≡ get_or xs i x → take (i + 1) xs ≡ take i xs ++ x ∷ []
taken_more xs i x l is = take_more xs i x l ∙ ap (λ y. take i xs ++ y ∷ []) (sym is)

pub behind_item : {X Y : Type 0} (f : X → Y) (xs : List X) (i : ℕ) (x : X) → i < length xs → x ≡ get_or xs i x → f x ≡ get_or (map f xs) i (f x)
behind_item f [] i x h e = absurd (omega arith)
behind_item f (y ∷ xs) zero x h e = ap f e
behind_item f (y ∷ xs) (suc i) x h e = behind_item f xs i x (omega arith) e

pub behind_within : {X Y : Type 0} (f : X → Y) (xs : List X) (i : ℕ) → i < length xs → i < length (map f xs)
behind_within f xs i h = let same = length-map xs f in omega arith

-- all rows that are lent
pub lent_all : (rows : List (Bor plain.Row)) (i : ℕ) → length rows ≤ i → take i (lent rows) ≡ lent rows
lent_all rows i h = let same = length-map rows (λ (r : Bor plain.Row). r.now) in take_all i (lent rows) (omega arith)

filter_short : {X : Type 0} (p : X → Bool) (xs : List X) → length (filter p xs) ≤ length xs
filter_short p [] = omega arith
filter_short p (x ∷ xs) = by_test (p x) (filter_short p xs) where
  by_test : (b : Bool) → length (filter p xs) ≤ length xs → length (cond b (x ∷ filter p xs) (filter p xs)) ≤ length (x ∷ xs)
  by_test true h = omega arith
  by_test false h = omega arith

-- of few rows few pass, and few of those that have a value
pub few_passing : (p : plain.Row → Bool) (refs : List (Bor plain.Row)) (rows : List plain.Row) (n : ℕ) → lent refs ≡ filter p rows → length rows < n → length refs < n
few_passing p refs rows n is few =
    let same = length-map refs (λ (r : Bor plain.Row). r.now) in
    let whole = ap length is in
    let short = filter_short p rows in
    omega arith

pub few_of_group : (p q : plain.Row → Bool) (refs : List (Bor plain.Row)) (rows : List plain.Row) (n : ℕ) → lent refs ≡ filter p (filter q rows) → length rows < n → length refs < n
few_of_group p q refs rows n is few =
    let short = filter_short q rows in
    few_passing p refs (filter q rows) n is (omega arith)

-- what is behind one item more
pub behind_more : {X Y : Type 0} (f : X → Y) (xs : List X) (i : ℕ) (x : X) → i < length xs → x ≡ get_or xs i x → take (i + 1) (map f xs) ≡ take i (map f xs) ++ f x ∷ []
behind_more f xs i x h e = taken_more (map f xs) i (f x) (behind_within f xs i h) (behind_item f xs i x h e)

-- a list of which one item more was taken up, and one of which it was passed over
pub item_taken : {X Y Z : Type 0} (f : X → Y) (h : Z → Option Y) (out new : List X) (zs more : List Z) (x : X) (z : Z) → new ≡ out ++ x ∷ [] → more ≡ zs ++ z ∷ [] → Some (f x) ≡ h z → map f out ≡ filter_map h zs → map f new ≡ filter_map h more
item_taken f h out new zs more x z step grown gives was =
    ap (map f) step ∙ map-append f out (x ∷ []) ∙ ap (λ ys. ys ++ f x ∷ []) was ∙ ap (λ o. filter_map h zs ++ cons_option o []) gives ∙ sym (ap (filter_map h) grown ∙ filter_map-append h zs (z ∷ []))

pub item_passed : {X Y Z : Type 0} (f : X → Y) (h : Z → Option Y) (out : List X) (zs more : List Z) (z : Z) → more ≡ zs ++ z ∷ [] → None ≡ h z → map f out ≡ filter_map h zs → map f out ≡ filter_map h more
item_passed f h out zs more z grown gives was =
    was ∙ sym (append-nil (filter_map h zs)) ∙ ap (λ o. filter_map h zs ++ cons_option o []) gives ∙ sym (ap (filter_map h) grown ∙ filter_map-append h zs (z ∷ []))

pub row_taken : {X Y : Type 0} (f : X → Y) (p : Y → Bool) (out new : List X) (ys more : List Y) (x : X) (y : Y) → new ≡ out ++ x ∷ [] → more ≡ ys ++ y ∷ [] → f x ≡ y → p y ≡ true → map f out ≡ filter p ys → map f new ≡ filter p more
row_taken f p out new ys more x y step grown is passes was =
    let one : filter p (y ∷ []) ≡ y ∷ [] = rw passes refl in
    ap (map f) step ∙ map-append f out (x ∷ []) ∙ ap (λ us. us ++ f x ∷ []) was ∙ ap (λ v. filter p ys ++ v ∷ []) is ∙ sym (ap (filter p) grown ∙ filter-append p ys (y ∷ []) ∙ ap (λ us. filter p ys ++ us) one)

pub row_passed : {X Y : Type 0} (f : X → Y) (p : Y → Bool) (out : List X) (ys more : List Y) (y : Y) → more ≡ ys ++ y ∷ [] → p y ≡ false → map f out ≡ filter p ys → map f out ≡ filter p more
row_passed f p out ys more y grown fails was =
    let none : filter p (y ∷ []) ≡ [] = rw fails refl in
    was ∙ sym (append-nil (filter p ys)) ∙ ap (λ us. filter p ys ++ us) (sym none) ∙ sym (ap (filter p) grown ∙ filter-append p ys (y ∷ []))

-- ROWS OF GROUPS

-- the run has a row at its first moment
abbrev pub has_row : (ℤ → List plain.Row) → Run → Bool
has_row rows run = not (length (rows run.from) == 0)

-- the fields of the runs of a group that have a row
abbrev pub group_fields : (ℤ → List plain.Row) → Cell → List Run → List (List Field)
group_fields rows value runs = map run_fields (map (in_group value) (filter (λ run. not (length (rows run.from) == 0)) runs))

run_more : (rows : ℤ → List plain.Row) (value : Cell) (runs : List Run) (run : Run) → group_fields rows value (runs ++ run ∷ []) ≡ group_fields rows value runs ++ group_fields rows value (run ∷ [])
run_more rows value runs run =
    let p : Run → Bool = λ r. not (length (rows r.from) == 0) in
    ap (λ rs. map run_fields (map (in_group value) rs)) (filter-append p runs (run ∷ [])) ∙ ap (map run_fields) (map-append (in_group value) (filter p runs) (filter p (run ∷ []))) ∙ map-append run_fields (map (in_group value) (filter p runs)) (map (in_group value) (filter p (run ∷ [])))

-- a run that has a row, and one that has none
pub run_kept : (rows : ℤ → List plain.Row) (value : Cell) (runs : List Run) (run given : Run) (fields : List Field) (moment : ℤ) (test : Bool) (start old new : List (List Field)) → moment ≡ run.from → test ≡ not (length (rows moment) == 0) → test ≡ true → given ≡ in_group value run → fields ≡ run_fields given → new ≡ old ++ fields ∷ [] → old ≡ start ++ group_fields rows value runs → new ≡ start ++ group_fields rows value (runs ++ run ∷ [])
run_kept rows value runs run given fields moment test start old new at says true_is given_is fields_is step was =
    let passes : not (length (rows run.from) == 0) ≡ true = ap (λ m. not (length (rows m) == 0)) (sym at) ∙ sym says ∙ true_is in
    let one : group_fields rows value (run ∷ []) ≡ run_fields (in_group value run) ∷ [] = rw passes refl in
    let same : fields ∷ [] ≡ group_fields rows value (run ∷ []) = ap (λ f. f ∷ []) (fields_is ∙ ap run_fields given_is) ∙ sym one in
    step ∙ ap (λ o. o ++ fields ∷ []) was ∙ append_assoc start (group_fields rows value runs) (fields ∷ []) ∙ ap (λ ys. start ++ (group_fields rows value runs ++ ys)) same ∙ ap (λ ys. start ++ ys) (sym (run_more rows value runs run))

pub run_left : (rows : ℤ → List plain.Row) (value : Cell) (runs : List Run) (run : Run) (moment : ℤ) (test : Bool) (start old : List (List Field)) → moment ≡ run.from → test ≡ not (length (rows moment) == 0) → test ≡ false → old ≡ start ++ group_fields rows value runs → old ≡ start ++ group_fields rows value (runs ++ run ∷ [])
run_left rows value runs run moment test start old at says false_is was =
    let fails : not (length (rows run.from) == 0) ≡ false = ap (λ m. not (length (rows m) == 0)) (sym at) ∙ sym says ∙ false_is in
    let none : group_fields rows value (run ∷ []) ≡ [] = rw fails refl in
    let whole = run_more rows value runs run ∙ ap (λ ys. group_fields rows value runs ++ ys) none ∙ append-nil (group_fields rows value runs) in
    was ∙ ap (λ ys. start ++ ys) (sym whole)

-- the answer with that of one group more
pub group_more : {V X Y Z : Type 0} (key : V → X) (f : Y → Z) (g : X → List Y) (vs : List V) (v : V) (out new : List Z) → new ≡ out ++ map f (g (key v)) → out ≡ map f (flat_map g (map key vs)) → new ≡ map f (flat_map g (map key (vs ++ v ∷ [])))
group_more key f g vs v out new step was =
    let parts = ap (flat_map g) (map-append key vs (v ∷ [])) ∙ flat_map-append g (map key vs) (key v ∷ []) ∙ ap (λ ys. flat_map g (map key vs) ++ ys) (append-nil (g (key v))) in
    step ∙ ap (λ o. o ++ map f (g (key v))) was ∙ sym (map-append f (flat_map g (map key vs)) (g (key v))) ∙ ap (map f) (sym parts)

-- pairs of one row more
pub pairs_taken : {X Y : Type 0} (h : X → List Y) (out new : List Y) (xs more : List X) (x : X) → new ≡ out ++ h x → more ≡ xs ++ x ∷ [] → out ≡ flat_map h xs → new ≡ flat_map h more
pairs_taken h out new xs more x step grown was =
    step ∙ ap (λ o. o ++ h x) was ∙ sym (ap (flat_map h) grown ∙ flat_map-append h xs (x ∷ []) ∙ ap (λ ys. flat_map h xs ++ ys) (append-nil (h x)))

-- pairs that one item more gives, behind those that were there
pub pair_taken : {Y Z : Type 0} (h : Z → Option Y) (start out new : List Y) (zs more : List Z) (z : Z) (y : Y) → new ≡ out ++ y ∷ [] → more ≡ zs ++ z ∷ [] → Some y ≡ h z → out ≡ start ++ filter_map h zs → new ≡ start ++ filter_map h more
pair_taken h start out new zs more z y step grown gives was =
    step ∙ ap (λ o. o ++ y ∷ []) was ∙ append_assoc start (filter_map h zs) (y ∷ []) ∙ ap (λ o. start ++ (filter_map h zs ++ cons_option o [])) gives ∙ sym (ap (λ ws. start ++ filter_map h ws) grown ∙ ap (λ ys. start ++ ys) (filter_map-append h zs (z ∷ [])))

pub pair_passed : {Y Z : Type 0} (h : Z → Option Y) (start out : List Y) (zs more : List Z) (z : Z) → more ≡ zs ++ z ∷ [] → None ≡ h z → out ≡ start ++ filter_map h zs → out ≡ start ++ filter_map h more
pair_passed h start out zs more z grown gives was =
    was ∙ ap (λ ys. start ++ ys) (sym (append-nil (filter_map h zs)) ∙ ap (λ o. filter_map h zs ++ cons_option o []) gives ∙ sym (ap (filter_map h) grown ∙ filter_map-append h zs (z ∷ [])))
