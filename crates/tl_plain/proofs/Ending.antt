-- Ending rows by their ids, one id more at a time.
use Rattle.std.proofs.Common.{◌≡◌, ℕ, zero, suc, ◌+◌, ◌<◌, ◌≤◌, Bool, true, false, ◌||◌, nat_eq, cond, List, [], ◌∷◌, ◌++◌, length, map, get_or, set, All, refl, sym, ap, ◌∙◌, subst, arith}
use Rattle.std.proofs.lemmas.Bool.Decides.{nat_tests}
use Rattle.std.specs.List.{enumerate_from}
use Rattle.tl_types.specs.History.{new_row, row_after, has_id}
use Rattle.tl_types.specs.Plain as plain

-- the rows from an id on, ended where their ids are among these
abbrev pub ends : ℕ → List ℕ → ℕ → List plain.Row → List plain.Row
ends version ids n rows = map (row_after version ids) (enumerate_from n rows)

pub holds-push : (ids : List ℕ) (id x : ℕ) → has_id (ids ++ id ∷ []) x ≡ (has_id ids x || nat_eq id x)
holds-push [] id x = elim (nat_eq id x) as (λ b. (b || false) ≡ (false || b)) [ true ↦ refl | false ↦ refl ]
holds-push (y ∷ ids) id x = elim (nat_eq y x) as (λ b. (b || has_id (ids ++ id ∷ []) x) ≡ ((b || has_id ids x) || nat_eq id x)) [ true ↦ refl | false ↦ holds-push ids id x ]

pub ended_other : (version : ℕ) (ids : List ℕ) (id n : ℕ) (row : plain.Row) → nat_eq id n ≡ false → row_after version (ids ++ id ∷ []) (n, row) ≡ row_after version ids (n, row)
ended_other version ids id n row e =
    let P : Bool → Type 0 = λ b. cond (has_id (ids ++ id ∷ []) n) (record row { to = version }) row ≡ cond b (record row { to = version }) row in
    let or_false : (b : Bool) → (b || false) ≡ b = λ b. elim b as (λ v. (v || false) ≡ v) [ true ↦ refl | false ↦ refl ] in
    subst P (holds-push ids id n ∙ ap (λ b. has_id ids n || b) e ∙ or_false (has_id ids n)) refl

pub ended_same : (version : ℕ) (ids : List ℕ) (id n : ℕ) (row : plain.Row) → id ≡ n → row_after version (ids ++ id ∷ []) (n, row) ≡ record row { to = version }
ended_same version ids id n row e =
    let P : Bool → Type 0 = λ b. cond b (record row { to = version }) row ≡ record row { to = version } in
    let same : nat_eq id n ≡ true = grind (arith, nat_tests) in
    let or_true : (b : Bool) → (b || true) ≡ true = λ b. elim b as (λ v. (v || true) ≡ true) [ true ↦ refl | false ↦ refl ] in
    subst P (sym (holds-push ids id n ∙ ap (λ b. has_id ids n || b) same ∙ or_true (has_id ids n))) refl

pub ended_twice : (version : ℕ) (ids : List ℕ) (n : ℕ) (row r : plain.Row) → r ≡ row_after version ids (n, row) → record r { to = version } ≡ record row { to = version }
ended_twice version ids n row r e =
    let P : plain.Row → Type 0 = λ x. record x { to = version } ≡ record row { to = version } in
    subst P (sym e) (elim (has_id ids n) as (λ b. record (cond b (record row { to = version }) row) { to = version } ≡ record row { to = version }) [ true ↦ refl | false ↦ refl ])

pub ends_none : (version n : ℕ) (rows : List plain.Row) → ends version [] n rows ≡ rows
ends_none version n [] = refl
ends_none version n (row ∷ rows) = ap (λ rs. row ∷ rs) (ends_none version (n + 1) rows)

pub ends_before : (version : ℕ) (ids : List ℕ) (id n : ℕ) (rows : List plain.Row) → id < n → ends version (ids ++ id ∷ []) n rows ≡ ends version ids n rows
ends_before version ids id n [] h = refl
ends_before version ids id n (row ∷ rows) h =
    let apart : nat_eq id n ≡ false = grind (arith, nat_tests) in
    let head = ended_other version ids id n row apart in
    let tail = ends_before version ids id (n + 1) rows (omega arith) in
    cc

pub ends_more : (version : ℕ) (ids : List ℕ) (n : ℕ) (rows : List plain.Row) (i id : ℕ) (d r : plain.Row) → i < length rows → id ≡ n + i → r ≡ get_or (ends version ids n rows) i d → set (ends version ids n rows) i (record r { to = version }) ≡ ends version (ids ++ id ∷ []) n rows
ends_more version ids n [] i id d r h e is = absurd (omega arith)
ends_more version ids n (row ∷ rows) zero id d r h e is =
    let head = ended_twice version ids n row r is in
    let same = ended_same version ids id n row (omega arith) in
    let tail = ends_before version ids id (n + 1) rows (omega arith) in
    cc
ends_more version ids n (row ∷ rows) (suc i) id d r h e is =
    let apart : nat_eq id n ≡ false = grind (arith, nat_tests) in
    let head = ended_other version ids id n row apart in
    let tail = ends_more version ids (n + 1) rows i id d r (omega arith) (omega arith) is in
    cc

pub ends-append : (version : ℕ) (ids : List ℕ) (n : ℕ) (xs ys : List plain.Row) → ends version ids n (xs ++ ys) ≡ ends version ids n xs ++ ends version ids (n + length xs) ys
ends-append version ids n [] ys = let e : n + 0 ≡ n = omega arith in rw e refl
ends-append version ids n (x ∷ xs) ys =
    let e : (n + 1) + length xs ≡ n + suc (length xs) = omega arith in
    let tail = ends-append version ids (n + 1) xs ys in
    cc

pub holds_past : (ids : List ℕ) (n x : ℕ) → All (λ id. id < n) ids → n ≤ x → has_id ids x ≡ false
holds_past [] n x small h = refl
holds_past (id ∷ ids) n x small h =
    let below : id < n = small 0 id (omega arith) in
    let apart : nat_eq id x ≡ false = grind (arith, nat_tests) in
    let later = holds_past ids n x (λ k d l. small (suc k) d (omega arith)) h in
    cc

pub ends_past : (version : ℕ) (ids : List ℕ) (n : ℕ) (rows : List plain.Row) (m : ℕ) → All (λ id. id < m) ids → m ≤ n → ends version ids n rows ≡ rows
ends_past version ids n [] m small h = refl
ends_past version ids n (row ∷ rows) m small h =
    let none = holds_past ids m n small h in
    let tail = ends_past version ids (n + 1) rows m small (omega arith) in
    cc

-- the rows of a table that closed rows and new rows stand in, ended: the new rows stay
pub ends_front : (version : ℕ) (ids : List ℕ) (rows more : List plain.Row) → All (λ id. id < length rows) ids → ends version ids 0 (rows ++ more) ≡ ends version ids 0 rows ++ more
ends_front version ids rows more small =
    let parts = ends-append version ids 0 rows more in
    let kept = ends_past version ids (0 + length rows) more (length rows) small (omega arith) in
    cc

-- closed rows and new rows stand in one list before the closed ones end
pub change_is : (version : ℕ) (ids closes : List ℕ) (rows grown new opened : List plain.Row) (opens given : List plain.Opened) → new ≡ map (row_after version ids) (enumerate_from 0 grown) → grown ≡ rows ++ opened → opened ≡ map (new_row version) given → given ≡ opens → ids ≡ closes → All (λ id. id < length rows) closes → new ≡ map (row_after version closes) (enumerate_from 0 rows) ++ map (new_row version) opens
change_is version ids closes rows grown new opened opens given a d e f g small =
    let front = ends_front version closes rows (map (new_row version) opens) small in
    cc
