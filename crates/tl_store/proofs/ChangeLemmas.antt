-- What a change makes of the rows of a table that is kept by columns.
use Rattle.std.proofs.Common.{◌≡◌, ◌≢◌, ℕ, zero, suc, ◌+◌, ◌-◌, ◌<◌, ◌≤◌, Bool, true, false, ◌&&◌, ◌||◌, cond, nat_eq, nat_le, ltb, List, [], ◌∷◌, ◌++◌, length, map, get_or, set, replicate, All, Option, Some, None, is_some, refl, sym, ap, ◌∙◌, arith, slice_get, if◌then◌else◌, length-append}
use Rattle.std.specs.Bool.{beq}
use Rattle.std.specs.List.{list_all, enumerate_from}
use Rattle.std.proofs.lemmas.List.{length-map, length-set, length-replicate, get_or-map, get_or-replicate, get_or-set_same, get_or-set_other, ext_get_or}
use Rattle.std.proofs.lemmas.List.FromFn.{length-enumerate_from, get_or-enumerate_from}
use Rattle.std.proofs.lemmas.List.Sums.{AllPass-from_list_all}
use Rattle.std.proofs.lemmas.Option.{slice_get_past}
use Rattle.std.proofs.lemmas.Bool.Decides.{nat_tests}
use borrow.Author.Tests.{leb-true}
use Rattle.tl_shared.specs.Chunks.{set_each}
use Rattle.tl_types.specs.History.{open_end, is_open_at, has_id, row_after, new_row, match_columns, matches, fits_table, table_after}
use Rattle.tl_types.specs.Limits.{standard_limits}
use Rattle.tl_types.specs.Plain as plain
use Rattle.tl_store.specs.declared.columns.ColumnData.{ColumnData}
use Rattle.tl_store.specs.Columns.{cell_in, longer_from, periods_in, row_in, rows_in, IsTable}
use Rattle.tl_store.specs.Kept.{Kept, table_of, kept_after}
use Rattle.tl_types.proofs.Lists.{and_left, and_right, open_within}
use Rattle.tl_store.proofs.RowLemmas.{rows_number, get_left, get_right, length-rows_in, rows_in_at, cells_kept, cells_new, are_columns_longer, length-longer_from}

-- ENDED ROWS

pub length-ends : (v : ℕ) (ids ts : List ℕ) → length (set_each v ts ids) ≡ length ts
length-ends v [] ts = refl
length-ends v (id ∷ ids) ts = length-ends v ids (set ts id v) ∙ length-set ts id v

pub end_at : (v : ℕ) (ids ts : List ℕ) (k d : ℕ) → k < length ts → get_or (set_each v ts ids) k d ≡ cond (has_id ids k) v (get_or ts k d)
end_at v [] ts k d h = refl
end_at v (id ∷ ids) ts k d h = by_test (nat_eq id k) refl (end_at v ids (set ts id v) k d (omega (arith, length-set ts id v))) where
  by_test : (b : Bool) → nat_eq id k ≡ b → get_or (set_each v (set ts id v) ids) k d ≡ cond (has_id ids k) v (get_or (set ts id v) k d) → get_or (set_each v (set ts id v) ids) k d ≡ cond (nat_eq id k || has_id ids k) v (get_or ts k d)
  by_test true e later =
      let same : k ≡ id = grind (arith, nat_tests) in
      let read : get_or (set ts id v) k d ≡ v = rw same (get_or-set_same ts id v d (omega arith)) in
      let twice : (b : Bool) → cond b v v ≡ v = λ b. elim b as (λ c. cond c v v ≡ v) [ true ↦ refl | false ↦ refl ] in
      rw e (later ∙ ap (λ t. cond (has_id ids k) v t) read ∙ twice (has_id ids k))
  by_test false e later =
      let apart : k ≢ id = λ s. absurd (let f : nat_eq id k ≡ true = grind (arith, nat_tests) in cc) in
      rw e (later ∙ ap (λ t. cond (has_id ids k) v t) (get_or-set_other ts id k v d apart))

ended_row : (v : ℕ) (ids : List ℕ) (k : ℕ) (cs : List ColumnData) (ps : List plain.Period) (f t : ℕ) → row_in cs ps k f (cond (has_id ids k) v t) ≡ row_after v ids (k, row_in cs ps k f t)
ended_row v ids k cs ps f t = elim (has_id ids k) as (λ b. row_in cs ps k f (cond b v t) ≡ (if b then record (row_in cs ps k f t) { to = v } else row_in cs ps k f t)) [ true ↦ refl | false ↦ refl ]

-- PERIODS OF OPENED ROWS

test_same : (a b : Bool) → beq a b ≡ true → a ≡ b
test_same true true h = refl
test_same true false h = absurd cc
test_same false true h = absurd cc
test_same false false h = refl

valid_of : (schema : plain.Schema) (o : plain.Opened) → matches schema o ≡ true → schema.valid ≡ is_some o.period
valid_of schema o h = test_same schema.valid (is_some o.period) (and_right (match_columns schema.columns o.cells) (beq schema.valid (is_some o.period)) h)

pub match_at : (schema : plain.Schema) (opens : List plain.Opened) (j : ℕ) (d : plain.Opened) → list_all (matches schema) opens ≡ true → j < length opens → matches schema (get_or opens j d) ≡ true
match_at schema opens j d h l = AllPass-from_list_all (matches schema) opens h j d l

periods_none : (schema : plain.Schema) (opens : List plain.Opened) → schema.valid ≡ false → list_all (matches schema) opens ≡ true → periods_in opens ≡ []
periods_none schema [] v h = refl
periods_none schema (o ∷ os) v h =
    none o.period (sym (valid_of schema o (and_left (matches schema o) (list_all (matches schema) os) h)) ∙ v) (periods_none schema os v (and_right (matches schema o) (list_all (matches schema) os) h)) where
      none : (p : Option plain.Period) → is_some p ≡ false → periods_in os ≡ [] → periods_in (record o { period = p } ∷ os) ≡ []
      none None e k = k
      none (Some p) e k = absurd cc

periods_each : (schema : plain.Schema) (opens : List plain.Opened) → schema.valid ≡ true → list_all (matches schema) opens ≡ true → (length (periods_in opens) ≡ length opens) × ((j : ℕ) (d : plain.Opened) → j < length opens → slice_get (periods_in opens) j ≡ (get_or opens j d).period)
periods_each schema [] v h = (refl, λ j d l. absurd (omega arith))
periods_each schema (o ∷ os) v h =
    one o.period (sym (valid_of schema o (and_left (matches schema o) (list_all (matches schema) os) h)) ∙ v) (periods_each schema os v (and_right (matches schema o) (list_all (matches schema) os) h)) where
      one : (p : Option plain.Period) → is_some p ≡ true → ((length (periods_in os) ≡ length os) × ((j : ℕ) (d : plain.Opened) → j < length os → slice_get (periods_in os) j ≡ (get_or os j d).period)) → (length (periods_in (record o { period = p } ∷ os)) ≡ suc (length os)) × ((j : ℕ) (d : plain.Opened) → j < suc (length os) → slice_get (periods_in (record o { period = p } ∷ os)) j ≡ (get_or (record o { period = p } ∷ os) j d).period)
      one None e k = absurd cc
      one (Some p) e k = (ap suc k.0, at) where
        at : (j : ℕ) (d : plain.Opened) → j < suc (length os) → slice_get (p ∷ periods_in os) j ≡ (get_or (record o { period = Some p } ∷ os) j d).period
        at zero d l = refl
        at (suc j) d l = k.1 j d (omega arith)

get_left_of : {X : Type 0} (xs ys : List X) (k : ℕ) → k < length xs → slice_get (xs ++ ys) k ≡ slice_get xs k
get_left_of [] ys k h = absurd (omega arith)
get_left_of (x ∷ xs) ys zero h = refl
get_left_of (x ∷ xs) ys (suc k) h = get_left_of xs ys k (omega arith)

get_right_of : {X : Type 0} (xs ys : List X) (k j : ℕ) → length xs + j ≡ k → slice_get (xs ++ ys) k ≡ slice_get ys j
get_right_of [] ys k j h = let s : k ≡ j = omega arith in ap (slice_get ys) s
get_right_of (x ∷ xs) ys zero j h = absurd (omega arith)
get_right_of (x ∷ xs) ys (suc k) j h = get_right_of xs ys k j (omega arith)

-- the periods of a table: as many as its rows, or none
pub periods_kept : (schema : plain.Schema) (ps : List plain.Period) (opens : List plain.Opened) (n k : ℕ) → length ps ≡ (if schema.valid then n else 0) → list_all (matches schema) opens ≡ true → k < n → slice_get (ps ++ periods_in opens) k ≡ slice_get ps k
periods_kept schema ps opens n k len h l = by_test schema.valid refl where
  by_test : (b : Bool) → schema.valid ≡ b → slice_get (ps ++ periods_in opens) k ≡ slice_get ps k
  by_test true e = let long : length ps ≡ n = rw e at len in get_left_of ps (periods_in opens) k (omega arith)
  by_test false e =
      let none : length ps ≡ 0 = rw e at len in
      let past : length (ps ++ periods_in opens) ≤ k = omega (arith, length-append ps (periods_in opens), ap length (periods_none schema opens e h)) in
      slice_get_past (ps ++ periods_in opens) k past ∙ sym (slice_get_past ps k (omega arith))

pub periods_new : (schema : plain.Schema) (ps : List plain.Period) (opens : List plain.Opened) (n k j : ℕ) (d : plain.Opened) → length ps ≡ (if schema.valid then n else 0) → list_all (matches schema) opens ≡ true → n + j ≡ k → j < length opens → slice_get (ps ++ periods_in opens) k ≡ (get_or opens j d).period
periods_new schema ps opens n k j d len h s l = by_test schema.valid refl where
  none_of : (p : Option plain.Period) → is_some p ≡ false → p ≡ None
  none_of None e = refl
  none_of (Some p) e = absurd cc

  by_test : (b : Bool) → schema.valid ≡ b → slice_get (ps ++ periods_in opens) k ≡ (get_or opens j d).period
  by_test true e =
      let long : length ps ≡ n = rw e at len in
      get_right_of ps (periods_in opens) k j (omega arith) ∙ (periods_each schema opens e h).1 j d l
  by_test false e =
      let none : length ps ≡ 0 = rw e at len in
      let past : length (ps ++ periods_in opens) ≤ k = omega (arith, length-append ps (periods_in opens), ap length (periods_none schema opens e h)) in
      slice_get_past (ps ++ periods_in opens) k past ∙ sym (none_of (get_or opens j d).period (sym (valid_of schema (get_or opens j d) (match_at schema opens j d h l)) ∙ e))

pub periods_many : (schema : plain.Schema) (ps : List plain.Period) (opens : List plain.Opened) (n m : ℕ) → length ps ≡ (if schema.valid then n else 0) → list_all (matches schema) opens ≡ true → n + length opens ≡ m → length (ps ++ periods_in opens) ≡ (if schema.valid then m else 0)
periods_many schema ps opens n m len h s = by_test schema.valid refl where
  by_test : (b : Bool) → schema.valid ≡ b → length (ps ++ periods_in opens) ≡ (if schema.valid then m else 0)
  by_test true e = let long : length ps ≡ n = rw e at len in rw e (omega (arith, length-append ps (periods_in opens), (periods_each schema opens e h).0))
  by_test false e = let none : length ps ≡ 0 = rw e at len in rw e (omega (arith, length-append ps (periods_in opens), ap length (periods_none schema opens e h)))

-- ALL ROWS

module _ (schema : plain.Schema) (cs : List ColumnData) (ps : List plain.Period) (fs ts : List ℕ) (table : IsTable schema cs ps fs ts) (v : ℕ) (closes : List ℕ) (opens : List plain.Opened) (fit : list_all (matches schema) opens ≡ true) where
  abbrev more_cs : List ColumnData
  more_cs = longer_from opens 0 cs

  abbrev more_ps : List plain.Period
  more_ps = ps ++ periods_in opens

  abbrev more_fs : List ℕ
  more_fs = fs ++ replicate (length opens) v

  abbrev more_ts : List ℕ
  more_ts = set_each v ts closes ++ replicate (length opens) open_end

  abbrev front : List plain.Row
  front = map (row_after v closes) (enumerate_from 0 (rows_in cs ps 0 fs ts))

  long_fs : length more_fs ≡ length fs + length opens
  long_fs = length-append fs (replicate (length opens) v) ∙ ap (λ n. length fs + n) (length-replicate (length opens) v)

  pub even_after : length more_ts ≡ length more_fs
  even_after = omega (arith, table.even, long_fs, length-append (set_each v ts closes) (replicate (length opens) open_end), length-ends v closes ts, length-replicate (length opens) open_end)

  long_front : length front ≡ length fs
  long_front = length-map (enumerate_from 0 (rows_in cs ps 0 fs ts)) (row_after v closes) ∙ length-enumerate_from 0 (rows_in cs ps 0 fs ts) ∙ length-rows_in cs ps 0 fs ts table.even

  kept_row : (k : ℕ) (d : plain.Row) → k < length fs → get_or (rows_in more_cs more_ps 0 more_fs more_ts) k d ≡ get_or (front ++ map (new_row v) opens) k d
  kept_row k d h =
      let cells = cells_kept (length fs) schema.columns cs opens 0 k table.cells h in
      let period = periods_kept schema ps opens (length fs) k table.valid fit h in
      let from : get_or more_fs k 0 ≡ get_or fs k 0 = get_left fs (replicate (length opens) v) k 0 h in
      let to : get_or more_ts k 0 ≡ cond (has_id closes k) v (get_or ts k 0) =
      get_left (set_each v ts closes) (replicate (length opens) open_end) k 0 (omega (arith, table.even, length-ends v closes ts)) ∙ end_at v closes ts k 0 (omega (arith, table.even)) in
      let made : row_in more_cs more_ps k (get_or more_fs k 0) (get_or more_ts k 0) ≡ row_in cs ps k (get_or fs k 0) (cond (has_id closes k) v (get_or ts k 0)) = rw (cells, period, from, to) refl in
      let old : get_or (rows_in cs ps 0 fs ts) k d ≡ row_in cs ps k (get_or fs k 0) (get_or ts k 0) = rows_in_at cs ps 0 fs ts k k d 0 0 table.even h (omega arith) in
      let there : k < length (rows_in cs ps 0 fs ts) = omega (arith, length-rows_in cs ps 0 fs ts table.even) in
      let numbered_there : k < length (enumerate_from 0 (rows_in cs ps 0 fs ts)) = omega (arith, length-enumerate_from 0 (rows_in cs ps 0 fs ts)) in
      let mapped : get_or front k d ≡ row_after v closes (k, get_or (rows_in cs ps 0 fs ts) k d) =
      get_or-map (row_after v closes) (enumerate_from 0 (rows_in cs ps 0 fs ts)) k (k, d) d numbered_there
      ∙ ap (row_after v closes) (get_or-enumerate_from 0 (rows_in cs ps 0 fs ts) k (k, d) there)
      ∙ ap (λ n. row_after v closes (n, get_or (rows_in cs ps 0 fs ts) k d)) (omega arith) in
      rows_in_at more_cs more_ps 0 more_fs more_ts k k d 0 0 even_after (omega (arith, long_fs)) (omega arith)
      ∙ made
      ∙ ended_row v closes k cs ps (get_or fs k 0) (get_or ts k 0)
      ∙ ap (λ r. row_after v closes (k, r)) (sym old)
      ∙ sym mapped
      ∙ sym (get_left front (map (new_row v) opens) k d (omega (arith, long_front)))

  opened_row : (k j : ℕ) (d : plain.Row) (o : plain.Opened) → length fs + j ≡ k → j < length opens → get_or (rows_in more_cs more_ps 0 more_fs more_ts) k d ≡ get_or (front ++ map (new_row v) opens) k d
  opened_row k j d o s h =
      let x = get_or opens j o in
      let cells : map (cell_in k) more_cs ≡ x.cells = cells_new (length fs) schema.columns cs opens 0 k j o x.cells table.cells s h refl (and_left (match_columns schema.columns x.cells) (beq schema.valid (is_some x.period)) (match_at schema opens j o fit h)) in
      let period = periods_new schema ps opens (length fs) k j o table.valid fit s h in
      let from : get_or more_fs k 0 ≡ v = get_right fs (replicate (length opens) v) (length fs) k j 0 refl s ∙ get_or-replicate (length opens) j v 0 h in
      let to : get_or more_ts k 0 ≡ open_end = get_right (set_each v ts closes) (replicate (length opens) open_end) (length fs) k j 0 (length-ends v closes ts ∙ table.even) s ∙ get_or-replicate (length opens) j open_end 0 h in
      let made : row_in more_cs more_ps k (get_or more_fs k 0) (get_or more_ts k 0) ≡ new_row v x = rw (cells, period, from, to) refl in
      rows_in_at more_cs more_ps 0 more_fs more_ts k k d 0 0 even_after (omega (arith, long_fs)) (omega arith)
      ∙ made
      ∙ sym (get_or-map (new_row v) opens j o d h)
      ∙ sym (get_right front (map (new_row v) opens) (length fs) k j d long_front s)

  pub rows_after : rows_in more_cs more_ps 0 more_fs more_ts ≡ front ++ map (new_row v) opens
  rows_after = ext_get_or none (rows_in more_cs more_ps 0 more_fs more_ts) (front ++ map (new_row v) opens) many (λ k h. each k (omega (arith, length-rows_in more_cs more_ps 0 more_fs more_ts even_after, long_fs)) (ltb k (length fs)) refl) where
    none : plain.Row
    none = row_in cs ps 0 0 0

    many : length (rows_in more_cs more_ps 0 more_fs more_ts) ≡ length (front ++ map (new_row v) opens)
    many = omega (arith, length-rows_in more_cs more_ps 0 more_fs more_ts even_after, long_fs, length-append front (map (new_row v) opens), long_front, length-map opens (new_row v))

    each : (k : ℕ) → k < length fs + length opens → (b : Bool) → ltb k (length fs) ≡ b → get_or (rows_in more_cs more_ps 0 more_fs more_ts) k none ≡ get_or (front ++ map (new_row v) opens) k none
    each k h true e = let low : k < length fs = grind (arith, nat_tests) in kept_row k none low
    each k h false e = let high : length fs ≤ k = grind (arith, nat_tests) in opened_row k (k - length fs) none (record { cells = []; period = None }) (omega arith) (omega arith)

-- A WHOLE TABLE

abbrev pub mk_kept : plain.Schema → ℕ → List plain.Row → List ℕ → Kept
mk_kept schema floor rows closed = record { schema = schema; floor = floor; rows = rows; closed = closed }

module _ (schema : plain.Schema) (cs : List ColumnData) (ps : List plain.Period) (fs ts closed : List ℕ) (floor : ℕ) (kept : Kept) (change : plain.Change) (table : IsTable schema cs ps fs ts) (is : mk_kept schema floor (rows_in cs ps 0 fs ts) closed ≡ kept) (fit : fits_table standard_limits change (Some (table_of kept)) ≡ true) where
  schema_is : schema ≡ kept.schema
  schema_is = ap (λ (k : Kept). k.schema) is

  rows_are : rows_in cs ps 0 fs ts ≡ kept.rows
  rows_are = ap (λ (k : Kept). k.rows) is

  pub all_match_schema : list_all (matches schema) change.opens ≡ true
  all_match_schema =
      let there = and_right (list_all (is_open_at kept.rows) change.closes) (list_all (matches kept.schema) change.opens) (and_left (list_all (is_open_at kept.rows) change.closes && list_all (matches kept.schema) change.opens) (nat_le (length kept.rows + length change.opens) 16777216) fit) in
      ap (λ s. list_all (matches s) change.opens) schema_is ∙ there

  pub few_rows : length fs + length change.opens ≤ 16777216
  few_rows =
      let few : length kept.rows + length change.opens ≤ 16777216 = leb-true (length kept.rows + length change.opens) 16777216 (and_right (list_all (is_open_at kept.rows) change.closes && list_all (matches kept.schema) change.opens) (nat_le (length kept.rows + length change.opens) 16777216) fit) in
      omega (arith, few, rows_number cs ps fs ts kept.rows rows_are table.even)

  pub closes_there : All (λ id. id < length ts) change.closes
  closes_there = λ k d h.
      let opened : is_open_at kept.rows (get_or change.closes k d) ≡ true = AllPass-from_list_all (is_open_at kept.rows) change.closes (and_left (list_all (is_open_at kept.rows) change.closes) (list_all (matches kept.schema) change.opens) (and_left (list_all (is_open_at kept.rows) change.closes && list_all (matches kept.schema) change.opens) (nat_le (length kept.rows + length change.opens) 16777216) fit)) k d h in
      let there = open_within kept.rows (get_or change.closes k d) opened in
      omega (arith, there, table.even, rows_number cs ps fs ts kept.rows rows_are table.even)

  module _ (v : ℕ) (schema2 : plain.Schema) (cs2 : List ColumnData) (ps2 : List plain.Period) (fs2 ts2 closed2 : List ℕ) (schema_same : schema2 ≡ schema) (cs_made : cs2 ≡ longer_from change.opens 0 cs) (ps_made : ps2 ≡ ps ++ periods_in change.opens) (fs_made : fs2 ≡ fs ++ replicate (length change.opens) v) (ts_made : ts2 ≡ set_each v ts change.closes ++ replicate (length change.opens) open_end) (closed_made : closed2 ≡ closed ++ change.closes) where
    long : length fs2 ≡ length fs + length change.opens
    long = omega (arith, ap length fs_made, length-append fs (replicate (length change.opens) v), length-replicate (length change.opens) v)

    pub table_made : IsTable schema2 cs2 ps2 fs2 ts2
    table_made = record {
      even = omega (arith, ap length ts_made, ap length fs_made, even_after schema cs ps fs ts table v change.closes change.opens all_match_schema);
      few = omega (arith, long, few_rows);
      cells = rw (schema_same, cs_made) (are_columns_longer (length fs) (length fs2) schema.columns cs change.opens 0 (sym long) table.cells);
      valid = rw (schema_same, ps_made) (periods_many schema ps change.opens (length fs) (length fs2) table.valid all_match_schema (sym long));
      some = omega (arith, ap length cs_made, length-longer_from change.opens 0 cs, table.some);
      narrow = omega (arith, ap length cs_made, length-longer_from change.opens 0 cs, table.narrow);
    }

    pub kept_made : mk_kept schema2 floor (rows_in cs2 ps2 0 fs2 ts2) closed2 ≡ kept_after v change kept
    kept_made =
        let rows : rows_in cs2 ps2 0 fs2 ts2 ≡ (table_after v change (table_of kept)).rows =
        rw (cs_made, ps_made, fs_made, ts_made) (rows_after schema cs ps fs ts table v change.closes change.opens all_match_schema)
        ∙ ap (λ rs. map (row_after v change.closes) (enumerate_from 0 rs) ++ map (new_row v) change.opens) rows_are in
        let ids : closed2 ≡ kept.closed ++ change.closes = closed_made ∙ ap (λ (k : Kept). k.closed ++ change.closes) is in
        rw (schema_same, schema_is, ap (λ (k : Kept). k.floor) is, rows, ids) refl
