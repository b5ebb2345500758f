-- The ids by key of the open rows of a table, made from its rows.
use Rattle.std.proofs.Common.{◌≡◌, ℕ, zero, suc, ◌+◌, ◌<◌, ◌≤◌, Bool, true, false, ◌&&◌, ◌||◌, cond, nat_eq, nat_lt, List, [], ◌∷◌, length, take, slice_get, slice_set, Option, Some, None, refl, sym, ap, ◌∙◌, arith}
use Rattle.std.specs.List.{filter}
use Rattle.std.specs.Option.{option_map}
use Rattle.std.proofs.lemmas.Bool.Decides.{nat_tests}
use Rattle.tl_types.specs.declared.cells.Cell.{Cell}
use Rattle.tl_types.specs.declared.batches.Batch.{Batch}
use Rattle.tl_types.specs.declared.batches.Batch.TheVariants as batch
use Rattle.tl_types.specs.Plain as plain
use Rattle.tl_types.specs.History.{is_open, is_open_at, rows_of, same_cell}
use Rattle.tl_types.specs.Resolving.{find_table, same_key}
use Rattle.tl_types.proofs.FoundTables.{table_found}
use Rattle.tl_store.specs.declared.shown.SystemPeriod.{SystemPeriod}
use Rattle.tl_store.specs.Reading.{cell_of_row, row_of, system_period}
use Rattle.tl_batch.specs.KeyIndex.{IdsByKey, has_row}
use Rattle.tl_batch.specs.Making.{is_key}
use Rattle.tl_batch.specs.Standing.{is_open_with, number_of, IsIndexOfTable, StandFor, StandStill}
use Rattle.tl_batch.proofs.ClosingLemmas.{key_of_row}
use Rattle.tl_batch.proofs.FollowLemmas.{made_still, schema_is, stands_set}
use Rattle.tl_batch.proofs.KeyIndexLemmas.{cell_sym}

-- ONE ROW

-- a row that has no end is open
pub open_by_end : (rows : List plain.Row) (row : ℕ) (p : SystemPeriod) → Some p ≡ option_map system_period (slice_get rows row) → nat_eq p.to 4294967295 ≡ is_open_at rows row
open_by_end [] row p e = absurd (cc)
open_by_end (r ∷ rows) zero p e = let same : p ≡ system_period r = cc in ap (λ q. nat_eq q.to 4294967295) same
open_by_end (r ∷ rows) (suc row) p e = open_by_end rows row p e

-- a row that is not open has no key among the open ones
pub not_open : (rows : List plain.Row) (row place : ℕ) (x : Cell) → is_open_at rows row ≡ false → is_open_with place x (slice_get rows row) ≡ false
not_open [] row place x e = refl
not_open (r ∷ rows) zero place x e = ap (λ b. b && same_key (slice_get r.cells place) (Some x)) e
not_open (r ∷ rows) (suc row) place x e = not_open rows row place x e

-- the key of a row that is open
pub open_with : (rows : List plain.Row) (row place : ℕ) (key x : Cell) → is_open_at rows row ≡ true → Some key ≡ cell_of_row place (slice_get rows row) → same_cell x key ≡ is_open_with place x (slice_get rows row)
open_with [] row place key x e at = absurd (cc)
open_with (r ∷ rows) zero place key x e at = cell_sym x key ∙ (sym (key_of_row place (Some r) key x at) ∙ ap (λ b. b && same_key (slice_get r.cells place) (Some x)) (sym e))
open_with (r ∷ rows) (suc row) place key x e at = open_with rows row place key x e at

-- HOW MANY ARE OPEN

filter_step : (b : Bool) (r : plain.Row) (rows : List plain.Row) → length (cond b (r ∷ rows) rows) ≡ cond b (length rows + 1) (length rows)
filter_step true r rows = let e : suc (length rows) ≡ length rows + 1 = omega arith in e
filter_step false r rows = refl

step_more : (a b : Bool) (n : ℕ) → cond a (cond b (n + 1) n + 1) (cond b (n + 1) n) ≡ cond b (cond a (n + 1) n + 1) (cond a (n + 1) n)
step_more true true n = refl
step_more true false n = refl
step_more false true n = refl
step_more false false n = refl

count_more : (rows : List plain.Row) (i : ℕ) → i < length rows → length (filter is_open (take (suc i) rows)) ≡ cond (is_open_at rows i) (length (filter is_open (take i rows)) + 1) (length (filter is_open (take i rows)))
count_more [] i h = absurd (omega arith)
count_more (r ∷ rows) zero h = filter_step (is_open r) r []
count_more (r ∷ rows) (suc i) h =
    filter_step (is_open r) r (filter is_open (take (suc i) rows))
    ∙ (ap (λ n. cond (is_open r) (n + 1) n) (count_more rows i (omega arith))
    ∙ (step_more (is_open r) (is_open_at rows i) (length (filter is_open (take i rows)))
    ∙ ap (λ n. cond (is_open_at rows i) (n + 1) n) (sym (filter_step (is_open r) r (filter is_open (take i rows))))))

pub count_step : (rows : List plain.Row) (i count next : ℕ) (is_it : Bool) → i < length rows → is_it ≡ is_open_at rows i → count ≡ length (filter is_open (take i rows)) → next ≡ cond is_it (count + 1) count → next ≡ length (filter is_open (take (i + 1) rows))
count_step rows i count next is_it h at e made =
    let s : suc i ≡ i + 1 = omega arith in
    made ∙ (ap (λ b. cond b (count + 1) count) at ∙ (ap (λ n. cond (is_open_at rows i) (n + 1) n) e ∙ (sym (count_more rows i h) ∙ ap (λ m. length (filter is_open (take m rows))) s)))

fewer : (b : Bool) (r : plain.Row) (rows : List plain.Row) (i : ℕ) → length rows ≤ i → length (cond b (r ∷ rows) rows) ≤ suc i
fewer true r rows i h = omega arith
fewer false r rows i h = omega arith

pub count_few : (rows : List plain.Row) (i : ℕ) → length (filter is_open (take i rows)) ≤ i
count_few [] zero = omega arith
count_few [] (suc i) = omega arith
count_few (r ∷ rows) zero = omega arith
count_few (r ∷ rows) (suc i) = fewer (is_open r) r (filter is_open (take i rows)) i (count_few rows i)

-- ALL ROWS

-- no row stands before the first
pub none_before : (place : ℕ) (rows : List plain.Row) (x : Cell) (n : ℕ) → (nat_lt n 0 && is_open_with place x (slice_get rows n)) ≡ false
none_before place rows x n = let e : nat_lt n 0 ≡ false = grind arith in ap (λ b. b && is_open_with place x (slice_get rows n)) e

-- one row more
pub open_more : (before after : Cell → ℕ → Bool) (key : Option Cell) (rows : List plain.Row) (place row : ℕ)
    → ((x : Cell) → is_key key x ≡ is_open_with place x (slice_get rows row))
    → ((x : Cell) (n : ℕ) → before x n ≡ (nat_lt n row && is_open_with place x (slice_get rows n)))
    → ((x : Cell) (n : ℕ) → after x n ≡ ((is_key key x && nat_eq n row) || before x n))
    → (x : Cell) (n : ℕ) → after x n ≡ (nat_lt n (row + 1) && is_open_with place x (slice_get rows n))
open_more before after key rows place row is was made x n = by_test (nat_eq n row) refl where
  all : after x n ≡ ((is_open_with place x (slice_get rows row) && nat_eq n row) || (nat_lt n row && is_open_with place x (slice_get rows n)))
  all = made x n ∙ (ap (λ b. (b && nat_eq n row) || before x n) (is x) ∙ ap (λ b. (is_open_with place x (slice_get rows row) && nat_eq n row) || b) (was x n))

  here : (w e l m : Bool) → e ≡ true → l ≡ false → m ≡ true → ((w && e) || (l && w)) ≡ (m && w)
  here w e l m p q r = grind arith

  apart : (v w e l m : Bool) → e ≡ false → m ≡ l → ((v && e) || (l && w)) ≡ (m && w)
  apart v w e l m p q = grind arith

  by_test : (b : Bool) → nat_eq n row ≡ b → after x n ≡ (nat_lt n (row + 1) && is_open_with place x (slice_get rows n))
  by_test true f =
      let same : n ≡ row = grind arith in
      let past : nat_lt n row ≡ false = grind (arith, nat_tests) in
      let within : nat_lt n (row + 1) ≡ true = grind (arith, nat_tests) in
      all ∙ (ap (λ m. (is_open_with place x (slice_get rows m) && nat_eq n row) || (nat_lt n row && is_open_with place x (slice_get rows n))) (sym same)
      ∙ here (is_open_with place x (slice_get rows n)) (nat_eq n row) (nat_lt n row) (nat_lt n (row + 1)) f past within)
  by_test false f =
      let same : nat_lt n (row + 1) ≡ nat_lt n row = grind (arith, nat_tests) in
      all ∙ apart (is_open_with place x (slice_get rows row)) (is_open_with place x (slice_get rows n)) (nat_eq n row) (nat_lt n row) (nat_lt n (row + 1)) f same

past_rows : (rows : List plain.Row) (n : ℕ) (place : ℕ) (x : Cell) → length rows ≤ n → is_open_with place x (slice_get rows n) ≡ false
past_rows [] n place x h = refl
past_rows (r ∷ rows) zero place x h = absurd (omega arith)
past_rows (r ∷ rows) (suc n) place x h = past_rows rows n place x (omega arith)

-- all rows
pub open_all : (rows : List plain.Row) (place i : ℕ) (x : Cell) (n : ℕ) → length rows ≤ i → (nat_lt n i && is_open_with place x (slice_get rows n)) ≡ is_open_with place x (slice_get rows n)
open_all rows place i x n h = by_test (nat_lt n i) refl where
  by_test : (b : Bool) → nat_lt n i ≡ b → (b && is_open_with place x (slice_get rows n)) ≡ is_open_with place x (slice_get rows n)
  by_test true f = refl
  by_test false f = let past : i ≤ n = grind (arith, nat_tests) in sym (past_rows rows n place x (omega arith))

-- THE TABLE

pub index_of_rows : (db : plain.Database) (number place : ℕ) (schema : plain.Schema) (index : IdsByKey) → Some schema ≡ option_map (λ t. t.schema) (slice_get db.tables number) → place ≡ schema.key
    → ((x : Cell) (n : ℕ) → has_row index x n ≡ is_open_with place x (row_of db number n))
    → IsIndexOfTable index (slice_get db.tables number)
index_of_rows db number place schema index known key each = by_table (slice_get db.tables number) refl where
  by_table : (o : Option plain.Table) → slice_get db.tables number ≡ o → IsIndexOfTable index o
  by_table None at = let e : Some schema ≡ None = known ∙ ap (option_map (λ (t : plain.Table). t.schema)) at in absurd (cc)
  by_table (Some t) at = λ x n.
      each x n ∙ (ap (λ p. is_open_with p x (row_of db number n)) (key ∙ ap (λ (s : plain.Schema). s.key) (schema_is (slice_get db.tables number) t schema at known))
      ∙ ap (λ rs. is_open_with t.schema.key x (slice_get rs n)) rows) where
        rows : rows_of db number ≡ t.rows
        rows = rw at refl

-- THE KEYS

-- keys of which one index more is made
pub still_made : (keys new : List (Option IdsByKey)) (db : plain.Database) (at : ℕ) (index : IdsByKey) → StandFor keys db → new ≡ slice_set keys at (Some index) → IsIndexOfTable index (slice_get db.tables at) → StandStill keys new db
still_made keys new db at index s made is = record { stand = stands_set keys new db at (Some index) s made is; made = made_still keys new at index made }

-- the number that a batch wants is that of a table
named : (db : plain.Database) (name : List ℕ) (number : ℕ) → Some number ≡ option_map (λ found. found.0) (find_table name db.tables) → number < length db.tables
named db name number e = (table_found db name number (sym e)).within

pub number_there : (db : plain.Database) (b : Batch) (number : ℕ) → Some number ≡ number_of db b → number < length db.tables
number_there db (batch.Create schema) number e = absurd (cc)
number_there db (batch.Put name lines) number e = named db name number e
number_there db (batch.Remove name lines) number e = named db name number e
number_there db (batch.Sync name lines) number e = named db name number e
number_there db (batch.Moment moment) number e = absurd (cc)
number_there db (batch.Forget name floor) number e = absurd (cc)
