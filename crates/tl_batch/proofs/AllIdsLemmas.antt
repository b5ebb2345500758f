-- The ids of all keys.
use Rattle.std.proofs.Common.{◌≡◌, ℕ, zero, suc, ◌+◌, ◌<◌, ◌≤◌, ℤ, pos, negsuc, Bool, true, false, ◌&&◌, ◌||◌, cond, List, [], ◌∷◌, length, slice_get, Option, Some, None, refl, sym, ap, ◌∙◌, arith}
use Rattle.std.specs.List.{list_any, All}
use Rattle.std.specs.Map.{lookup}
use Rattle.tl_types.specs.declared.cells.Cell.{Cell}
use Rattle.tl_types.specs.declared.cells.Cell.TheVariants as cell
use Rattle.tl_types.specs.contracts.cells.CellPartialEq.TheImpl as equal
use Rattle.std.specs.Option.{option_map}
use Rattle.std.specs.Ordering.{int_eq}
use Rattle.std.proofs.lemmas.Bool.{and_parts}
use Rattle.tl_types.specs.Names.{same_bytes}
use Rattle.tl_types.specs.Plain as plain
use Rattle.tl_types.specs.Resolving.{same_key}
use Rattle.tl_types.specs.History.{has_id, is_open, same_cell}
use Rattle.tl_batch.specs.declared.few_ids.FewIds.{FewIds}
use Rattle.tl_batch.specs.declared.two_ids.TwoIds.{TwoIds}
use Rattle.tl_batch.specs.KeyIndex.{IdsByKey, FewIdsByKey, SmallIds, any_at, any_few, any_further, any_row, any_small, has_few, has_further, has_number, has_row, has_set, has_small, has_two, in_set_of, is_among_few, is_among_ids, is_among_two, is_at_key, is_of, is_of_two}
use Rattle.tl_batch.specs.OpenTables.{IsIndexOf}
use Rattle.tl_batch.specs.Standing.{is_open_with, rows_match}
use Rattle.tl_batch.proofs.AffectLemmas.{row-cells}
use Rattle.tl_batch.proofs.KeyIndexLemmas.{cell_self, found_at}

-- KEYS THAT ARE FOUND

-- an entry of a map of which a test holds
pub record Found {K X : Type 0} (same : K → K → Bool) (test : X → Bool) (all : List (K × X)) : Type 0 where
  pub key : K
  pub value : X
  pub at : lookup (same key) all ≡ Some value
  pub holds : test value ≡ true

pub found_in : {K X : Type 0} (same : K → K → Bool) (test : X → Bool) (all entries : List (K × X)) → All (λ e. lookup (same e.0) all ≡ Some e.1) entries → list_any (λ e. test e.1) entries ≡ true → Found same test all
found_in same test all [] each any = absurd (cc)
found_in same test all (e ∷ entries) each any = by_test (test e.1) refl any (found_in same test all entries (λ k d h. each (suc k) d (omega arith))) where
  by_test : (b : Bool) → test e.1 ≡ b → (b || list_any (λ e. test e.1) entries) ≡ true → (list_any (λ e. test e.1) entries ≡ true → Found same test all) → Found same test all
  by_test true f any later = record { key = e.0; value = e.1; at = each 0 e (omega arith); holds = f }
  by_test false f any later = later any

-- a key of one or two ids
pub key_of_few : {K : Type 0} (same : K → K → Bool) (entries all : List (K × FewIds)) (n : ℕ) → All (λ e. lookup (same e.0) all ≡ Some e.1) entries → entries ≡ all → any_at all n ≡ true → (x : K) × (is_at_key same all x n ≡ true)
key_of_few same entries all n each view any =
    let f = found_in same (λ ids. is_of ids n) all entries each (ap (λ es. any_at es n) view ∙ any) in
    (f.key, ap (λ o. is_among_few o n) f.at ∙ f.holds)

-- a key of further ids
pub key_of_further : (entries all : List (Cell × List ℕ)) (n : ℕ) → All (λ e. lookup (equal.eq-value.it e.0) entries ≡ Some e.1) entries → entries ≡ all → any_further all n ≡ true → (x : Cell) × (has_further all x n ≡ true)
key_of_further entries all n each view any =
    let f = found_in equal.eq-value.it (λ ids. has_id ids n) entries entries each (ap (λ es. any_further es n) view ∙ any) in
    (f.key, sym (ap (λ o. is_among_ids o n) (found_at f.key (Some f.value) entries all (sym f.at) view)) ∙ f.holds)

-- a small key
two_place : (two : List TwoIds) (n : ℕ) → list_any (λ ids. is_of_two ids n) two ≡ true → (i : ℕ) × (is_among_two (slice_get two i) n ≡ true)
two_place [] n e = absurd (cc)
two_place (ids ∷ two) n e = by_test (is_of_two ids n) refl e (two_place two n) where
  by_test : (b : Bool) → is_of_two ids n ≡ b → (b || list_any (λ q. is_of_two q n) two) ≡ true → (list_any (λ q. is_of_two q n) two ≡ true → (i : ℕ) × (is_among_two (slice_get two i) n ≡ true)) → (i : ℕ) × (is_among_two (slice_get (ids ∷ two) i) n ≡ true)
  by_test true f any later = (0, f)
  by_test false f any later = let p = later any in (suc p.0, p.1)

set_place : (sets : List (List ℕ)) (n : ℕ) → list_any (λ ids. has_id ids n) sets ≡ true → (i : ℕ) × (is_among_ids (slice_get sets i) n ≡ true)
set_place [] n e = absurd (cc)
set_place (ids ∷ sets) n e = by_test (has_id ids n) refl e (set_place sets n) where
  by_test : (b : Bool) → has_id ids n ≡ b → (b || list_any (λ q. has_id q n) sets) ≡ true → (list_any (λ q. has_id q n) sets ≡ true → (i : ℕ) × (is_among_ids (slice_get sets i) n ≡ true)) → (i : ℕ) × (is_among_ids (slice_get (ids ∷ sets) i) n ≡ true)
  by_test true f any later = (0, f)
  by_test false f any later = let p = later any in (suc p.0, p.1)

or_left : (a b : Bool) → a ≡ true → (a || b) ≡ true
or_left true b e = refl
or_left false b e = absurd (cc)

or_right : (a b : Bool) → b ≡ true → (a || b) ≡ true
or_right true b e = refl
or_right false b e = e

pub key_of_small : (ids : SmallIds) (n : ℕ) → any_small ids n ≡ true → (x : Cell) × (has_small ids x n ≡ true)
key_of_small ids n any = by_test (list_any (λ two. is_of_two two n) ids.two) refl any where
  by_test : (b : Bool) → list_any (λ two. is_of_two two n) ids.two ≡ b → (b || list_any (λ set. has_id set n) ids.sets) ≡ true → (x : Cell) × (has_small ids x n ≡ true)
  by_test true f e = let p = two_place ids.two n f in (cell.Int (pos p.0), or_left (has_two ids.two (cell.Int (pos p.0)) n) (has_set ids.sets (cell.Int (pos p.0)) n) p.1)
  by_test false f e = let p = set_place ids.sets n e in (cell.Int (pos p.0), or_right (has_two ids.two (cell.Int (pos p.0)) n) (has_set ids.sets (cell.Int (pos p.0)) n) p.1)

-- of numbers or texts
pub key_of_either : (few : FewIdsByKey) (n : ℕ) → (any_at few.numbers n ≡ true → (x : ℤ) × (has_few few (cell.Int x) n ≡ true)) → (any_at few.texts n ≡ true → (x : List ℕ) × (has_few few (cell.Text x) n ≡ true)) → any_few few n ≡ true → (x : Cell) × (has_few few x n ≡ true)
key_of_either few n numbers texts any = by_test (any_at few.numbers n) refl any where
  by_test : (b : Bool) → any_at few.numbers n ≡ b → (b || any_at few.texts n) ≡ true → (x : Cell) × (has_few few x n ≡ true)
  by_test true f e = let p = numbers f in (cell.Int p.0, p.1)
  by_test false f e = let p = texts e in (cell.Text p.0, p.1)

-- of all
pub key_of_row : (ids : IdsByKey) (n : ℕ) → (any_small ids.small n ≡ true → (x : Cell) × (has_small ids.small x n ≡ true)) → (any_few ids.few n ≡ true → (x : Cell) × (has_few ids.few x n ≡ true)) → (any_further ids.further n ≡ true → (x : Cell) × (has_further ids.further x n ≡ true))
    → any_row ids n ≡ true → (x : Cell) × (has_row ids x n ≡ true)
key_of_row ids n small few further any = by_test (any_small ids.small n) refl (any_few ids.few n) refl any where
  by_test : (a : Bool) → any_small ids.small n ≡ a → (b : Bool) → any_few ids.few n ≡ b → (a || b || any_further ids.further n) ≡ true → (x : Cell) × (has_row ids x n ≡ true)
  by_test true f b g e = let p = small f in (p.0, or_left (has_small ids.small p.0 n || has_few ids.few p.0 n) (has_further ids.further p.0 n) (or_left (has_small ids.small p.0 n) (has_few ids.few p.0 n) p.1))
  by_test false f true g e = let p = few g in (p.0, or_left (has_small ids.small p.0 n || has_few ids.few p.0 n) (has_further ids.further p.0 n) (or_right (has_small ids.small p.0 n) (has_few ids.few p.0 n) p.1))
  by_test false f false g e = let p = further e in (p.0, or_right (has_small ids.small p.0 n || has_few ids.few p.0 n) (has_further ids.further p.0 n) p.1)

-- WHAT STANDS UNDER A KEY STANDS UNDER SOME KEY

two_any : (two : List TwoIds) (i n : ℕ) → is_among_two (slice_get two i) n ≡ true → list_any (λ ids. is_of_two ids n) two ≡ true
two_any [] i n e = absurd (cc)
two_any (ids ∷ two) zero n e = or_left (is_of_two ids n) (list_any (λ q. is_of_two q n) two) e
two_any (ids ∷ two) (suc i) n e = or_right (is_of_two ids n) (list_any (λ q. is_of_two q n) two) (two_any two i n e)

set_any : (sets : List (List ℕ)) (i n : ℕ) → is_among_ids (slice_get sets i) n ≡ true → list_any (λ ids. has_id ids n) sets ≡ true
set_any [] i n e = absurd (cc)
set_any (ids ∷ sets) zero n e = or_left (has_id ids n) (list_any (λ q. has_id q n) sets) e
set_any (ids ∷ sets) (suc i) n e = or_right (has_id ids n) (list_any (λ q. has_id q n) sets) (set_any sets i n e)

few_any : {K : Type 0} (same : K → Bool) (entries : List (K × FewIds)) (n : ℕ) → is_among_few (lookup same entries) n ≡ true → any_at entries n ≡ true
few_any same [] n e = absurd (cc)
few_any same (f ∷ entries) n e = by_test (same f.0) e (few_any same entries n) where
  by_test : (b : Bool) → is_among_few (cond b (Some f.1) (lookup same entries)) n ≡ true → (is_among_few (lookup same entries) n ≡ true → any_at entries n ≡ true) → (is_of f.1 n || any_at entries n) ≡ true
  by_test true g later = or_left (is_of f.1 n) (any_at entries n) g
  by_test false g later = or_right (is_of f.1 n) (any_at entries n) (later g)

further_any : (same : Cell → Bool) (entries : List (Cell × List ℕ)) (n : ℕ) → is_among_ids (lookup same entries) n ≡ true → any_further entries n ≡ true
further_any same [] n e = absurd (cc)
further_any same (f ∷ entries) n e = by_test (same f.0) e (further_any same entries n) where
  by_test : (b : Bool) → is_among_ids (cond b (Some f.1) (lookup same entries)) n ≡ true → (is_among_ids (lookup same entries) n ≡ true → any_further entries n ≡ true) → (has_id f.1 n || any_further entries n) ≡ true
  by_test true g later = or_left (has_id f.1 n) (any_further entries n) g
  by_test false g later = or_right (has_id f.1 n) (any_further entries n) (later g)

or_both : (a b c d : Bool) → (a ≡ true → c ≡ true) → (b ≡ true → d ≡ true) → (a || b) ≡ true → (c || d) ≡ true
or_both true b c d left right e = or_left c d (left refl)
or_both false b c d left right e = or_right c d (right e)

small_any : (ids : SmallIds) (x : Cell) (n : ℕ) → has_small ids x n ≡ true → any_small ids n ≡ true
small_any ids (cell.Int (pos i)) n e = or_both (is_among_two (slice_get ids.two i) n) (is_among_ids (slice_get ids.sets i) n) (list_any (λ two. is_of_two two n) ids.two) (list_any (λ set. has_id set n) ids.sets) (two_any ids.two i n) (set_any ids.sets i n) e
small_any ids (cell.Int (negsuc i)) n e = absurd (cc)
small_any ids (cell.Text t) n e = absurd (cc)

any_of_few : (few : FewIdsByKey) (x : Cell) (n : ℕ) → has_few few x n ≡ true → any_few few n ≡ true
any_of_few few (cell.Int i) n e = or_left (any_at few.numbers n) (any_at few.texts n) (few_any (int_eq i) few.numbers n e)
any_of_few few (cell.Text t) n e = or_right (any_at few.numbers n) (any_at few.texts n) (few_any (same_bytes t) few.texts n e)

pub row_any : (ids : IdsByKey) (x : Cell) (n : ℕ) → has_row ids x n ≡ true → any_row ids n ≡ true
row_any ids x n e =
    or_both (has_small ids.small x n || has_few ids.few x n) (has_further ids.further x n) (any_small ids.small n || any_few ids.few n) (any_further ids.further n)
    (or_both (has_small ids.small x n) (has_few ids.few x n) (any_small ids.small n) (any_few ids.few n) (small_any ids.small x n) (any_of_few ids.few x n)) (further_any (same_cell x) ids.further n) e

-- THE ROWS THAT STAND

-- the row is there and current
abbrev pub stands : Option plain.Row → Bool
stands None = false
stands (Some row) = is_open row

open_stands : (place : ℕ) (x : Cell) (o : Option plain.Row) → is_open_with place x o ≡ true → stands o ≡ true
open_stands place x None e = absurd (cc)
open_stands place x (Some r) e = (and_parts (is_open r) (same_key (slice_get r.cells place) (Some x)) e).0

-- the cell at a place that is there
cell_there : (xs : List Cell) (place : ℕ) → place < length xs → (x : Cell) × (slice_get xs place ≡ Some x)
cell_there [] place h = absurd (omega arith)
cell_there (x ∷ xs) zero h = (x, refl)
cell_there (x ∷ xs) (suc place) h = cell_there xs place (omega arith)

-- an id stands under some key exactly where its row stands
pub any_stands : (index : IdsByKey) (t : plain.Table) (n : ℕ) → IsIndexOf index t.schema.key t.rows → rows_match (Some t) ≡ true → t.schema.key < length t.schema.columns → (any_row index n ≡ true → (x : Cell) × (has_row index x n ≡ true)) → any_row index n ≡ stands (slice_get t.rows n)
any_stands index t n ids matching among keys = by_test (any_row index n) refl (stands (slice_get t.rows n)) refl where
  at_row : (o : Option plain.Row) → slice_get t.rows n ≡ o → stands o ≡ true → any_row index n ≡ true
  at_row None at e = absurd (cc)
  at_row (Some r) at e =
      let number = row-cells t n r.cells matching (sym (ap (option_map (λ (q : plain.Row). q.cells)) at)) in
      let key = cell_there r.cells t.schema.key (omega arith) in
      row_any index key.0 n (ids key.0 n ∙ (ap (is_open_with t.schema.key key.0) at ∙ (ap (λ k. is_open r && same_key k (Some key.0)) key.1 ∙ (ap (λ b. is_open r && b) (cell_self key.0) ∙ (ap (λ b. b && true) e)))))

  by_test : (b : Bool) → any_row index n ≡ b → (s : Bool) → stands (slice_get t.rows n) ≡ s → any_row index n ≡ stands (slice_get t.rows n)
  by_test true f s g = let p = keys f in f ∙ sym (open_stands t.schema.key p.0 (slice_get t.rows n) (sym (ids p.0 n) ∙ p.1))
  by_test false f true g = absurd (let h = at_row (slice_get t.rows n) refl g in cc)
  by_test false f false g = f ∙ sym g
