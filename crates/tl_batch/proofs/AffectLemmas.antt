-- The rows that lines affect.
use Rattle.std.proofs.Common.{◌≡◌, ℕ, zero, suc, ◌+◌, ◌<◌, ◌≤◌, Bool, true, false, ◌&&◌, ◌||◌, cond, nat_eq, List, [], ◌∷◌, length, drop, get_or, slice_get, Option, Some, None, is_some, option_map, subst, refl, sym, ap, ◌∙◌, arith}
use Rattle.std.specs.List.{list_any, list_all, All}
use Rattle.std.specs.Bool.{beq}
use Rattle.std.proofs.lemmas.Bool.{and_parts}
use Rattle.std.proofs.lemmas.List.{drop_all, drop_more, drop-drop, get_or-drop}
use Rattle.tl_types.specs.declared.cells.Cell.{Cell}
use Rattle.tl_types.specs.Plain as plain
use Rattle.tl_types.specs.History.{has_id, matches, match_columns}
use Rattle.tl_batch.specs.Pieces.{affects_period, affected_by, apart_from}
use Rattle.std.specs.Cmp.{nat_eq_equiv}
use Rattle.tl_batch.specs.Standing.{is_open_with, rows_match}
use Rattle.tl_batch.proofs.FollowLemmas.{cells_number}

-- ROWS OF A KEY

open_within : (place : ℕ) (x : Cell) (rows : List plain.Row) (n : ℕ) → is_open_with place x (slice_get rows n) ≡ true → n < length rows
open_within place x [] n e = absurd (cc)
open_within place x (r ∷ rows) zero e = omega arith
open_within place x (r ∷ rows) (suc n) e = let h = open_within place x rows n e in omega arith

pub holds_at : (ids : List ℕ) (k d : ℕ) → k < length ids → has_id ids (get_or ids k d) ≡ true
holds_at [] k d h = absurd (omega arith)
holds_at (id ∷ ids) zero d h = let same : nat_eq id id ≡ true = grind arith in ap (λ v. v || has_id ids id) same
holds_at (id ∷ ids) (suc k) d h = grind (arith, holds_at ids k d (omega arith))

pub of_key-within : (place : ℕ) (x : Cell) (rows : List plain.Row) (ids given : List ℕ) → given ≡ ids → ((n : ℕ) → has_id ids n ≡ is_open_with place x (slice_get rows n)) → All (λ id. id < length rows) given
of_key-within place x rows ids given same members = subst (All (λ id. id < length rows)) (sym same) (λ k d l. open_within place x rows (get_or ids k d) (sym (members (get_or ids k d)) ∙ holds_at ids k d l))

-- ROWS APART FROM LINES

pub affected_here : (lines : List (Option plain.Period)) (whole : Option plain.Period) (o : Option plain.Row) → Some whole ≡ option_map (λ (r : plain.Row). r.period) o → list_any (λ line. affects_period true line whole) lines ≡ affected_by true lines o
affected_here lines whole None e = absurd (cc)
affected_here lines whole (Some r) e = let same : whole ≡ r.period = cc in ap (λ w. list_any (λ line. affects_period true line w) lines) same

-- a row with a period
pub timed_here : (rows : List plain.Row) (row : ℕ) (p : plain.Period) → row < length rows → ((r : plain.Row) → slice_get rows row ≡ Some r → r.period ≡ Some p) → Some (Some p) ≡ option_map (λ (r : plain.Row). r.period) (slice_get rows row)
timed_here [] row p h timed = absurd (omega arith)
timed_here (r ∷ rows) zero p h timed = ap Some (sym (timed r refl))
timed_here (r ∷ rows) (suc row) p h timed = timed_here rows row p (omega arith) timed

step : (lines : List (Option plain.Period)) (rows : List plain.Row) (ids : List ℕ) (i : ℕ) (told : Bool) (whole : Option plain.Period) → i < length ids → Some whole ≡ option_map (λ (r : plain.Row). r.period) (slice_get rows (get_or ids i 0)) → told ≡ list_any (λ line. affects_period true line whole) lines
    → apart_from lines rows (drop i ids) ≡ cond told 0 (suc (apart_from lines rows (drop (i + 1) ids)))
step lines rows ids i told whole h timed is = ap (apart_from lines rows) (drop_more ids i 0 h) ∙ ap (λ b. cond b 0 (suc (apart_from lines rows (drop (i + 1) ids)))) (sym (is ∙ affected_here lines whole (slice_get rows (get_or ids i 0)) timed))

pub apart_here : (lines : List (Option plain.Period)) (rows : List plain.Row) (ids : List ℕ) (i : ℕ) (told : Bool) (whole : Option plain.Period) → i < length ids → Some whole ≡ option_map (λ (r : plain.Row). r.period) (slice_get rows (get_or ids i 0)) → told ≡ list_any (λ line. affects_period true line whole) lines → told ≡ true
    → i + apart_from lines rows (drop i ids) ≡ apart_from lines rows ids → i ≡ apart_from lines rows ids
apart_here lines rows ids i told whole h timed is met e =
    let none : apart_from lines rows (drop i ids) ≡ 0 = step lines rows ids i told whole h timed is ∙ ap (λ b. cond b 0 (suc (apart_from lines rows (drop (i + 1) ids)))) met in
    omega arith

pub apart_next : (lines : List (Option plain.Period)) (rows : List plain.Row) (ids : List ℕ) (i : ℕ) (told : Bool) (whole : Option plain.Period) → i < length ids → Some whole ≡ option_map (λ (r : plain.Row). r.period) (slice_get rows (get_or ids i 0)) → told ≡ list_any (λ line. affects_period true line whole) lines → told ≡ false
    → i + apart_from lines rows (drop i ids) ≡ apart_from lines rows ids → i + 1 + apart_from lines rows (drop (i + 1) ids) ≡ apart_from lines rows ids
apart_next lines rows ids i told whole h timed is met e =
    let next : apart_from lines rows (drop i ids) ≡ suc (apart_from lines rows (drop (i + 1) ids)) = step lines rows ids i told whole h timed is ∙ ap (λ b. cond b 0 (suc (apart_from lines rows (drop (i + 1) ids)))) met in
    omega arith

pub apart_end : (lines : List (Option plain.Period)) (rows : List plain.Row) (ids : List ℕ) (i : ℕ) → length ids ≤ i → i ≤ length ids → i + apart_from lines rows (drop i ids) ≡ apart_from lines rows ids → length ids ≡ apart_from lines rows ids
apart_end lines rows ids i h k e =
    let none : apart_from lines rows (drop i ids) ≡ 0 = ap (apart_from lines rows) (drop_all i ids h) in
    omega arith

-- no row is left that lines affect
none_left : (lines : List (Option plain.Period)) (rows : List plain.Row) (ids : List ℕ) → length ids ≤ apart_from lines rows ids → (n : ℕ) → (has_id ids n && affected_by true lines (slice_get rows n)) ≡ false
none_left lines rows [] h n = refl
none_left lines rows (id ∷ ids) h n = by (affected_by true lines (slice_get rows id)) refl h (λ k. none_left lines rows ids k n) where
  by : (b : Bool) → affected_by true lines (slice_get rows id) ≡ b → suc (length ids) ≤ cond b 0 (suc (apart_from lines rows ids)) → (length ids ≤ apart_from lines rows ids → (has_id ids n && affected_by true lines (slice_get rows n)) ≡ false) → ((nat_eq id n || has_id ids n) && affected_by true lines (slice_get rows n)) ≡ false
  by true e k later = absurd (omega arith)
  by false e k later = at (nat_eq id n) refl (later (omega arith)) where
    at : (t : Bool) → nat_eq id n ≡ t → (has_id ids n && affected_by true lines (slice_get rows n)) ≡ false → ((t || has_id ids n) && affected_by true lines (slice_get rows n)) ≡ false
    at true f last = let same : id ≡ n = grind arith in ap (λ m. affected_by true lines (slice_get rows m)) (sym same) ∙ e
    at false f last = last

-- the first row that lines affect, and those behind it
first_left : (lines : List (Option plain.Period)) (rows : List plain.Row) (ids : List ℕ) (at : ℕ) → at ≡ apart_from lines rows ids → at < length ids → (n : ℕ) → (has_id ids n && affected_by true lines (slice_get rows n)) ≡ (nat_eq n (get_or ids at 0) || (has_id (drop (suc at) ids) n && affected_by true lines (slice_get rows n)))
first_left lines rows [] at is h n = absurd (omega arith)
first_left lines rows (id ∷ ids) at is h n = by (affected_by true lines (slice_get rows id)) refl is at refl h (λ k one m. first_left lines rows ids k one m n) where
  goes : ℕ → Bool
  goes m = affected_by true lines (slice_get rows m)

  by : (b : Bool) → affected_by true lines (slice_get rows id) ≡ b → at ≡ cond b 0 (suc (apart_from lines rows ids)) → (k : ℕ) → k ≡ at → at < suc (length ids) → ((k : ℕ) → k ≡ apart_from lines rows ids → k < length ids → (has_id ids n && goes n) ≡ (nat_eq n (get_or ids k 0) || (has_id (drop (suc k) ids) n && goes n))) → ((nat_eq id n || has_id ids n) && goes n) ≡ (nat_eq n (get_or (id ∷ ids) at 0) || (has_id (drop (suc at) (id ∷ ids)) n && goes n))
  by true e f k g m later = subst (λ z. ((nat_eq id n || has_id ids n) && goes n) ≡ (nat_eq n (get_or (id ∷ ids) z 0) || (has_id (drop (suc z) (id ∷ ids)) n && goes n))) (sym f) (here (nat_eq id n) refl) where
    here : (t : Bool) → nat_eq id n ≡ t → ((nat_eq id n || has_id ids n) && goes n) ≡ (nat_eq n id || (has_id ids n && goes n))
    here true q =
        let same : id ≡ n = grind arith in
        let passes : goes n ≡ true = ap goes (sym same) ∙ e in
        grind (arith, nat_eq_equiv.symm id n)
    here false q = grind (arith, nat_eq_equiv.symm id n)
  by false e f zero g m later = absurd (omega arith)
  by false e f (suc k) g m later =
      let one : k ≡ apart_from lines rows ids = omega arith in
      subst (λ z. ((nat_eq id n || has_id ids n) && goes n) ≡ (nat_eq n (get_or (id ∷ ids) z 0) || (has_id (drop (suc z) (id ∷ ids)) n && goes n))) g (skip (nat_eq id n) refl (later k one (omega arith))) where
        skip : (t : Bool) → nat_eq id n ≡ t → (has_id ids n && goes n) ≡ (nat_eq n (get_or ids k 0) || (has_id (drop (suc k) ids) n && goes n)) → ((nat_eq id n || has_id ids n) && goes n) ≡ (nat_eq n (get_or ids k 0) || (has_id (drop (suc k) ids) n && goes n))
        skip true q last =
            let same : id ≡ n = grind arith in
            let stops : goes n ≡ false = ap goes (sym same) ∙ e in
            let later = last in
            grind arith
        skip false q last = ap (λ b. (b || has_id ids n) && goes n) q ∙ last

-- one row more
pub row_added : (lines : List (Option plain.Period)) (rows : List plain.Row) (ids met behind : List ℕ) (at id n : ℕ) (before after : List ℕ) (all : Bool) → at ≡ apart_from lines rows ids → at < length ids → met ≡ drop at ids → id ≡ get_or met 0 0 → behind ≡ drop 1 met → has_id after n ≡ (nat_eq n id || has_id before n)
    → ((has_id ids n && affected_by true lines (slice_get rows n)) || has_id before n) ≡ all → ((has_id behind n && affected_by true lines (slice_get rows n)) || has_id after n) ≡ all
row_added lines rows ids met behind at id n before after all is h cut first last added e =
    let rest : behind ≡ drop (at + 1) ids = last ∙ (ap (drop 1) cut ∙ drop-drop 1 at ids) in
    let none : at + 0 ≡ at = omega arith in
    let there : id ≡ get_or ids at 0 = first ∙ (ap (λ xs. get_or xs 0 0) cut ∙ (get_or-drop at ids 0 0 ∙ ap (λ k. get_or ids k 0) none)) in
    let s : at + 1 ≡ suc at = omega arith in
    let b : has_id behind n ≡ has_id (drop (suc at) ids) n = ap (λ xs. has_id xs n) rest ∙ ap (λ k. has_id (drop k ids) n) s in
    let d : nat_eq n id ≡ nat_eq n (get_or ids at 0) = ap (nat_eq n) there in
    turned (has_id behind n) (has_id (drop (suc at) ids) n) (affected_by true lines (slice_get rows n)) (nat_eq n id) (nat_eq n (get_or ids at 0)) (has_id before n) (has_id after n) (has_id ids n && affected_by true lines (slice_get rows n)) b d (first_left lines rows ids at is h n) added e where
      turned : (b b' p q q' m w f : Bool) → b ≡ b' → q ≡ q' → f ≡ (q' || (b' && p)) → w ≡ (q || m) → (f || m) ≡ all → ((b && p) || w) ≡ all
      turned b b' p q q' m w f r1 r2 r3 r4 r5 = grind arith

-- all rows
pub rows_added : (lines : List (Option plain.Period)) (rows : List plain.Row) (ids : List ℕ) (at n : ℕ) (now : List ℕ) (all : Bool) → at ≡ apart_from lines rows ids → length ids ≤ at → ((has_id ids n && affected_by true lines (slice_get rows n)) || has_id now n) ≡ all → has_id now n ≡ all
rows_added lines rows ids at n now all is h e = ap (λ b. b || has_id now n) (sym (none_left lines rows ids (omega arith) n)) ∙ e

-- CELLS OF ROWS

-- a row of a table has a cell for each column
pub row-cells : (table : plain.Table) (row : ℕ) (cells : List Cell) → rows_match (Some table) ≡ true → Some cells ≡ option_map (λ (r : plain.Row). r.cells) (slice_get table.rows row) → length cells ≡ length table.schema.columns
row-cells table row cells matching e = at table.rows row matching e where
  fits : plain.Row → Bool
  fits r = matches table.schema (record { cells = r.cells; period = r.period })

  at : (rs : List plain.Row) (i : ℕ) → list_all fits rs ≡ true → Some cells ≡ option_map (λ (r : plain.Row). r.cells) (slice_get rs i) → length cells ≡ length table.schema.columns
  at [] i all f = absurd (cc)
  at (r ∷ rs) zero all f =
      let same : cells ≡ r.cells = cc in
      let this : fits r ≡ true = (and_parts (fits r) (list_all fits rs) all).0 in
      ap length same ∙ sym (cells_number table.schema.columns r.cells (and_parts (match_columns table.schema.columns r.cells) (beq table.schema.valid (is_some r.period)) this).0)
  at (r ∷ rs) (suc i) all f = at rs i (and_parts (fits r) (list_all fits rs) all).1 f
