-- What is shown of the rows of a set.
use Rattle.std.proofs.Common.{◌≡◌, ℕ, zero, suc, ◌+◌, ◌-◌, ◌*◌, ◌/◌, ◌<◌, ◌≤◌, Bool, true, false, cond, ℤ, List, [], ◌∷◌, ◌++◌, length, map, take, get_or, Option, None, Some, slice_get, refl, ap, sym, ◌∙◌, arith}
use Rattle.std.proofs.lemmas.List.{append_assoc, take_more, map-append, length-append, take_all}
use Rattle.std.proofs.lemmas.Nat.{mul-le}
use Rattle.tl_lanes.specs.Masks.{words_for}
use Rattle.std.proofs.lemmas.List.Elements.{filter-append}
use Rattle.std.proofs.lemmas.Option.{slice_get_within}
use Rattle.std.specs.List.{filter}
use Rattle.tl_types.specs.declared.answers.Field.{Field}
use Rattle.tl_types.specs.History.{rows_of}
use Rattle.tl_types.specs.Plain as plain
use Rattle.tl_query.specs.declared.typed_queries.TypedItem.{TypedItem}
use Rattle.tl_query.specs.Fields.{row_fields}
use Rattle.tl_bits.specs.Sets.{is_member, IsFree}
use Rattle.tl_exec.specs.Shown.{TellsAsked, rows_in_set, is_valid_at, fields_in_set, fields_if_valid}

-- one item more
pub item_more : {X Y : Type 0} (f : X → Y) → (xs : List X) (i : ℕ) (d : X) (out new : List Y) (y : Y) → i < length xs → out ≡ map f (take i xs) → new ≡ out ++ y ∷ [] → y ≡ f (get_or xs i d)
    → new ≡ map f (take (i + 1) xs)
item_more f xs i d out new y there was step is =
    step ∙ ap (λ ys. ys ++ y ∷ []) was ∙ ap (λ z. map f (take i xs) ++ z ∷ []) is
    ∙ sym (map-append f (take i xs) (get_or xs i d ∷ [])) ∙ ap (map f) (sym (take_more xs i d there))

-- the same behind items that stand there
pub item_behind : {X Y : Type 0} (f : X → Y) → (start : List Y) (xs : List X) (i : ℕ) (d : X) (out new : List Y) (y : Y) → i < length xs → out ≡ start ++ map f (take i xs) → new ≡ out ++ y ∷ []
    → y ≡ f (get_or xs i d) → new ≡ start ++ map f (take (i + 1) xs)
item_behind f start xs i d out new y there was step is =
    step ∙ ap (λ ys. ys ++ y ∷ []) was ∙ append_assoc start (map f (take i xs)) (y ∷ [])
    ∙ ap (λ ys. start ++ ys) (item_more f xs i d (map f (take i xs)) (map f (take i xs) ++ y ∷ []) y there refl refl is)

-- THE ROWS OF A SET

-- one row more that is not in the set
not_in_set : (set : List Bool) (rows : List plain.Row) (n : ℕ) → get_or set n false ≡ false → rows_in_set (take (n + 1) set) rows ≡ rows_in_set (take n set) rows
not_in_set set rows n out = ap (λ k. rows_in_set (take k set) rows) (let e : n + 1 ≡ suc n = omega arith in e) ∙ cut set rows n out where
  cut : (set : List Bool) (rows : List plain.Row) (n : ℕ) → get_or set n false ≡ false → rows_in_set (take (suc n) set) rows ≡ rows_in_set (take n set) rows
  cut [] rows zero out = refl
  cut [] rows (suc n) out = refl
  cut (true ∷ set) rows zero out = absurd (cc)
  cut (false ∷ set) [] zero out = refl
  cut (false ∷ set) (row ∷ rows) zero out = refl
  cut (b ∷ set) [] (suc n) out = refl
  cut (true ∷ set) (row ∷ rows) (suc n) out = ap (λ rs. row ∷ rs) (cut set rows n out)
  cut (false ∷ set) (row ∷ rows) (suc n) out = cut set rows n out

-- one row more that is
in_set : (set : List Bool) (rows : List plain.Row) (n : ℕ) (r : plain.Row) → get_or set n false ≡ true → slice_get rows n ≡ Some r
    → rows_in_set (take (n + 1) set) rows ≡ rows_in_set (take n set) rows ++ r ∷ []
in_set set rows n r there is = ap (λ k. rows_in_set (take k set) rows) (let e : n + 1 ≡ suc n = omega arith in e) ∙ cut set rows n there is where
  cut : (set : List Bool) (rows : List plain.Row) (n : ℕ) → get_or set n false ≡ true → slice_get rows n ≡ Some r → rows_in_set (take (suc n) set) rows ≡ rows_in_set (take n set) rows ++ r ∷ []
  cut [] rows n there is = absurd (cc)
  cut (b ∷ set) [] n there is = absurd (cc)
  cut (true ∷ set) (row ∷ rows) zero there is = let e : row ≡ r = cc in ap (λ x. x ∷ []) e
  cut (false ∷ set) (row ∷ rows) zero there is = absurd (cc)
  cut (true ∷ set) (row ∷ rows) (suc n) there is = ap (λ rs. row ∷ rs) (cut set rows n there is)
  cut (false ∷ set) (row ∷ rows) (suc n) there is = cut set rows n there is

-- rows between members change nothing
pub free_between : (set : List Bool) (rows : List plain.Row) (from to : ℕ) → from ≤ to → IsFree set from to → rows_in_set (take to set) rows ≡ rows_in_set (take from set) rows
free_between set rows from to ordered free =
    ap (λ k. rows_in_set (take k set) rows) (let e : to ≡ from + (to - from) = omega arith in e) ∙ far (to - from) (λ row above below. free row above (omega arith)) where
      far : (k : ℕ) → IsFree set from (from + k) → rows_in_set (take (from + k) set) rows ≡ rows_in_set (take from set) rows
      far zero free = ap (λ k. rows_in_set (take k set) rows) (let e : from + 0 ≡ from = omega arith in e)
      far (suc k) free =
          ap (λ m. rows_in_set (take m set) rows) (let e : from + suc k ≡ from + k + 1 = omega arith in e)
          ∙ not_in_set set rows (from + k) (free (from + k) (omega arith) (omega arith))
          ∙ far k (λ row above below. free row above (omega arith))

-- what is shown of the rows of a set with ids below a number
abbrev pub shown_to : List TypedItem → Option ℤ → List Bool → List plain.Row → ℕ → List (List Field)
shown_to items valid_at set rows n = fields_in_set items valid_at (take n set) rows

-- the next member, and what it is shown as
pub shown_more : (items : List TypedItem) (valid_at : Option ℤ) (set : List Bool) (rows : List plain.Row) (from row : ℕ) (r : plain.Row) (out new : List (List Field))
    → from ≤ row → IsFree set from row → is_member set row ≡ true → slice_get rows row ≡ Some r
    → out ≡ shown_to items valid_at set rows from → new ≡ out ++ fields_if_valid items valid_at r → new ≡ shown_to items valid_at set rows (row + 1)
shown_more items valid_at set rows from row r out new ordered free there is was step =
    let more = in_set set rows row r there is in
    let before = free_between set rows from row ordered free in
    let front = rows_in_set (take row set) rows in
    step ∙ ap (λ rs. rs ++ fields_if_valid items valid_at r) (was ∙ ap (λ rs. map (row_fields items) (filter (is_valid_at valid_at) rs)) (sym before))
    ∙ sym (ap (λ rs. map (row_fields items) (filter (is_valid_at valid_at) rs)) more
    ∙ ap (map (row_fields items)) (filter-append (is_valid_at valid_at) front (r ∷ []))
    ∙ map-append (row_fields items) (filter (is_valid_at valid_at) front) (filter (is_valid_at valid_at) (r ∷ []))
    ∙ ap (λ rs. map (row_fields items) (filter (is_valid_at valid_at) front) ++ rs) (one (is_valid_at valid_at r))) where
      one : (b : Bool) → map (row_fields items) (cond b (r ∷ []) []) ≡ cond b (row_fields items r ∷ []) []
      one true = refl
      one false = refl

-- how many rows of a set have ids below a number
abbrev pub count_to : List Bool → List plain.Row → ℕ → ℕ
count_to set rows n = length (rows_in_set (take n set) rows)

pub count_more : (set : List Bool) (rows : List plain.Row) (from row : ℕ) (r : plain.Row) → from ≤ row → IsFree set from row → is_member set row ≡ true → slice_get rows row ≡ Some r
    → count_to set rows (row + 1) ≡ count_to set rows from + 1
count_more set rows from row r ordered free there is =
    ap length (in_set set rows row r there is) ∙ length-append (rows_in_set (take row set) rows) (r ∷ [])
    ∙ ap (λ rs. length rs + 1) (free_between set rows from row ordered free)

-- the row with an id
pub row_there : (rows : List plain.Row) (n : ℕ) → n < length rows → (r : plain.Row) × (slice_get rows n ≡ Some r)
row_there [] n below = absurd (omega arith)
row_there (row ∷ rows) zero below = (row, refl)
row_there (row ∷ rows) (suc n) below = row_there rows n (omega arith)

-- at the end of the set
pub shown_all : (items : List TypedItem) (valid_at : Option ℤ) (set : List Bool) (rows : List plain.Row) (from : ℕ) (out : List (List Field)) → from ≤ length set → IsFree set from (length set)
    → out ≡ shown_to items valid_at set rows from → out ≡ fields_in_set items valid_at set rows
shown_all items valid_at set rows from out within free was =
    was ∙ ap (λ rs. map (row_fields items) (filter (is_valid_at valid_at) rs))
    (sym (free_between set rows from (length set) within free) ∙ ap (λ s. rows_in_set s rows) (take_all (length set) set (omega arith)))

pub count_within : (set : List Bool) (rows : List plain.Row) (n : ℕ) → count_to set rows n ≤ length (rows_in_set set rows)
count_within [] rows zero = omega arith
count_within [] rows (suc n) = omega arith
count_within (b ∷ set) rows zero = omega arith
count_within (b ∷ set) [] (suc n) = omega arith
count_within (true ∷ set) (row ∷ rows) (suc n) = let h = count_within set rows n in omega arith
count_within (false ∷ set) (row ∷ rows) (suc n) = count_within set rows n

-- steps of one member more
pub member_steps : (start before found after from row i n m : ℕ) → before ≤ start + from / 64 + (i + 2) * n → found + from / 64 ≡ before + row / 64 + 1
    → after ≤ found + i + 1 → m ≡ n + 1 → after ≤ start + (row + 1) / 64 + (i + 2) * m
member_steps start before found after from row i n m so_far steps last more =
    let e : (i + 2) * m ≡ (i + 2) * n + (i + 2) = ap (λ k. (i + 2) * k) more ∙ (let f : (i + 2) * (n + 1) ≡ (i + 2) * n + (i + 2) = grind arith in f) in
    omega arith

-- they are within those of all members
pub steps_within : (start after row len i m all : ℕ) → after ≤ start + (row + 1) / 64 + (i + 2) * m → row < len → m ≤ all → after ≤ start + words_for len + (i + 2) * all
steps_within start after row len i m all so_far inside less =
    let e : (i + 2) * m ≤ (i + 2) * all = mul-le (i + 2) m (i + 2) all (omega arith) less in
    omega arith

pub steps_to_end : (start before after from len i n all : ℕ) → before ≤ start + from / 64 + (i + 2) * n → after ≡ before + (words_for len - from / 64) → from ≤ len → n ≤ all
    → after ≤ start + words_for len + (i + 2) * all
steps_to_end start before after from len i n all so_far steps within less =
    let e : (i + 2) * n ≤ (i + 2) * all = mul-le (i + 2) n (i + 2) all (omega arith) less in
    omega arith

-- a word past all rows tells of none
pub none_tells : (db : plain.Database) (table : ℕ) (valid_at : Option ℤ) (at bits : ℕ) → length (rows_of db table) ≤ 16777216 → at ≡ 4294967295 → TellsAsked db table valid_at at bits
none_tells db table None at bits few is = tt
none_tells db table (Some moment) at bits few is =
    λ k r small there.
    let within = slice_get_within (rows_of db table) (64 * at + k) r there in
    absurd (omega (arith, few, is, within))
