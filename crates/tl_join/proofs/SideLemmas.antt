-- The rows of a side: how many there may be, and what its entries are.
use Rattle.std.proofs.Common.{◌≡◌, ℕ, zero, suc, ◌+◌, ◌-◌, ◌*◌, ◌≤◌, ◌<◌, Bool, true, false, cond, List, [], ◌∷◌, ◌++◌, length, take, drop, Option, Some, None, refl, sym, ap, ◌∙◌, arith, slice_get, get_or, All, length-append}
use Rattle.std.proofs.lemmas.List.{length-take-le, length-drop, map-append, take_more}
use Rattle.std.proofs.lemmas.List.Elements.{All-cons, All-append, All-nil}
use Rattle.std.specs.List.{filter_map, AllByRecursion}
use Rattle.tl_types.specs.declared.cells.Cell.{Cell}
use Rattle.tl_types.specs.declared.events.Event.{Event}
use Rattle.tl_types.specs.Events.{events_of, place_of}
use Rattle.tl_types.specs.Plain as plain
use Rattle.tl_types.proofs.EventLemmas.{events_few, place_grows}
use Rattle.tl_query.specs.declared.typed_queries.JoinPlan.{JoinPlan}
use Rattle.tl_bits.specs.Sets.{is_member, members}
use Rattle.tl_join.specs.declared.entries.Entry.{Entry}
use Rattle.tl_join.specs.declared.sides.Side.{Side}
use Rattle.tl_keys.specs.Keys.{KeyNumbers, KeepsNumbers, number_at}
use Rattle.tl_join.specs.Sides.{IsOfRow, IsEntryOf, ids_in, side_rows}
use Rattle.tl_join.specs.There.{members_from, opened_row, opened_in, ids_there}

-- BOUNDS

members_below : (bs : List Bool) (n rows : ℕ) → n + length bs ≤ rows → All (λ id. id < rows) (members_from n bs)
members_below [] n rows h = All-nil (λ id. id < rows)
members_below (true ∷ bs) n rows h = All-cons (λ id. id < rows) n (members_from (n + 1) bs) (omega (arith, h)) (members_below bs (n + 1) rows (omega (arith, h)))
members_below (false ∷ bs) n rows h = members_below bs (n + 1) rows (omega (arith, h))

members_few : (bs : List Bool) (n : ℕ) → length (members_from n bs) ≤ length bs
members_few [] n = omega arith
members_few (true ∷ bs) n = let later = members_few bs (n + 1) in omega (arith, later)
members_few (false ∷ bs) n = let later = members_few bs (n + 1) in omega (arith, later)

few_opened : (keep : List Bool) (events : List Event) → length (filter_map (opened_row keep) events) ≤ length events
few_opened keep [] = omega arith
few_opened keep (e ∷ es) = by_option (opened_row keep e) refl (few_opened keep es) where
  by_option : (o : Option ℕ) → opened_row keep e ≡ o → length (filter_map (opened_row keep) es) ≤ length es → length (filter_map (opened_row keep) (e ∷ es)) ≤ length (e ∷ es)
  by_option None f later = rw f (omega (arith, later))
  by_option (Some id) f later = rw f (omega (arith, later))

opened_few : (events : List Event) (first last : ℕ) (keep : List Bool) → last ≤ length events → length (opened_in events first last keep) ≤ last - first
opened_few events first last keep h =
    let a = few_opened keep (drop first (take last events)) in
    let b = length-drop first (take last events) in
    let c : length (take last events) ≡ last = length-take-le last events h in
    omega (arith, a, b, c)

member_inside : (set : List Bool) (row : ℕ) → is_member set row ≡ true → row < length set
member_inside [] row h = absurd (cc)
member_inside (b ∷ bs) zero h = omega arith
member_inside (b ∷ bs) (suc row) h = let later = member_inside bs row h in omega (arith, later)

kept_below : (keep : List Bool) (e : Event) (id rows : ℕ) → length keep ≡ rows → opened_row keep e ≡ Some id → id < rows
kept_below keep e id rows h f = by_opens e.opens (is_member keep e.row) refl f where
  by_opens : (o m : Bool) → is_member keep e.row ≡ m → cond o (cond m (Some e.row) None) None ≡ Some id → id < rows
  by_opens false m g f = absurd (cc)
  by_opens true false g f = absurd (cc)
  by_opens true true g f = let same : e.row ≡ id = cc in let inside : e.row < length keep = member_inside keep e.row g in omega (arith, same, inside, h)

opened_below : (keep : List Bool) (rows : ℕ) (events : List Event) → length keep ≡ rows → All (λ id. id < rows) (filter_map (opened_row keep) events)
opened_below keep rows [] h = All-nil (λ id. id < rows)
opened_below keep rows (e ∷ es) h = by_option (opened_row keep e) refl (opened_below keep rows es h) where
  by_option : (o : Option ℕ) → opened_row keep e ≡ o → All (λ id. id < rows) (filter_map (opened_row keep) es) → All (λ id. id < rows) (filter_map (opened_row keep) (e ∷ es))
  by_option None f later = rw f later
  by_option (Some id) f later = rw f (All-cons (λ id. id < rows) id (filter_map (opened_row keep) es) (kept_below keep e id rows h f) later)

-- each id is that of a row
pub there_below : (rows : List plain.Row) (last from to : ℕ) (start keep : List Bool) (ids : List ℕ) → length start ≡ length rows → length keep ≡ length rows → ids ≡ ids_there rows last from to start keep → All (λ id. id < length rows) ids
there_below rows last from to start keep ids h k is = rw is (All-append (λ id. id < length rows) (members start) (opened_in (events_of rows last) (place_of rows from) (place_of rows (to - 1)) keep) (members_below start 0 (length rows) (omega (arith, h))) (opened_below keep (length rows) (drop (place_of rows from) (take (place_of rows (to - 1)) (events_of rows last))) k))

-- how many ids there are, by the events and by the rows
pub there_few : (rows : List plain.Row) (last from to : ℕ) (start keep : List Bool) (ids : List ℕ) → to ≤ last + 1 → ids ≡ ids_there rows last from to start keep → length ids ≤ length (members start) + (place_of rows (to - 1) - place_of rows from)
there_few rows last from to start keep ids inside is =
    let a = opened_few (events_of rows last) (place_of rows from) (place_of rows (to - 1)) keep (place_grows rows (to - 1) last (omega (arith, inside))) in
    let b = ap length is ∙ length-append (members start) (opened_in (events_of rows last) (place_of rows from) (place_of rows (to - 1)) keep) in
    omega (arith, a, b)

pub rows_few : (rows : List plain.Row) (from to n : ℕ) (start : List Bool) → length start ≡ length rows → n ≤ length (members start) + (place_of rows (to - 1) - place_of rows from) → n ≤ 3 * length rows
rows_few rows from to n start h k =
    let a = members_few start 0 in
    let b = events_few rows (to - 1) in
    omega (arith, a, b, h, k)

-- ENTRIES, and keys that get numbers

of_row_later : (column : ℕ) (plan : JoinPlan) (old new : KeyNumbers) (o : Option plain.Row) (e : Entry) → KeepsNumbers old new → IsOfRow column plan old o e → IsOfRow column plan new o e
of_row_later column plan old new None e keeps h = h
of_row_later column plan old new (Some row) e keeps h = (h.0, h.1, by_cell (slice_get row.cells column) h.2) where
  by_cell : (o : Option Cell) → number_at old o ≡ Some e.code → number_at new o ≡ Some e.code
  by_cell None h = absurd (cc)
  by_cell (Some key) h = keeps key e.code h

pub entries_later : (side : Side) (plan : JoinPlan) (old new : KeyNumbers) (es : List Entry) → KeepsNumbers old new → AllByRecursion (IsEntryOf side plan old) es → AllByRecursion (IsEntryOf side plan new) es
entries_later side plan old new [] keeps h = tt
entries_later side plan old new (e ∷ es) keeps h = (of_row_later side.column plan old new (slice_get (side_rows side) e.id) e keeps h.0, entries_later side plan old new es keeps h.1)

all_push : {X : Type 0} (P : X → Type 0) (xs : List X) (x : X) → AllByRecursion P xs → P x → AllByRecursion P (xs ++ x ∷ [])
all_push P [] x h p = (p, tt)
all_push P (y ∷ xs) x h p = (h.0, all_push P xs x h.1 p)

pub entries_more : (side : Side) (plan : JoinPlan) (old new : KeyNumbers) (es more : List Entry) (e : Entry) → KeepsNumbers old new → AllByRecursion (IsEntryOf side plan old) es → IsEntryOf side plan new e → more ≡ es ++ e ∷ [] → AllByRecursion (IsEntryOf side plan new) more
entries_more side plan old new es more e keeps h one is = rw is (all_push (IsEntryOf side plan new) es e (entries_later side plan old new es keeps h) one)

pub keeps_on : (old now new : KeyNumbers) → KeepsNumbers old now → KeepsNumbers now new → KeepsNumbers old new
keeps_on old now new a b key n h = b key n (a key n h)

pub ids_more : (ids : List ℕ) (i : ℕ) (es more : List Entry) (e : Entry) → i < length ids → e.id ≡ get_or ids i 0 → more ≡ es ++ e ∷ [] → ids_in es ≡ take i ids → ids_in more ≡ take (i + 1) ids
ids_more ids i es more e inside here is before =
    ap ids_in is ∙ map-append (λ (e : Entry). e.id) es (e ∷ []) ∙ ap (λ ns. ns ++ e.id ∷ []) before ∙ ap (λ n. take i ids ++ n ∷ []) here ∙ sym (take_more ids i 0 inside)

-- THE STEPS of a side
pub side_steps : (old mid new words starts events searches : ℕ) (ids : ℕ) → mid ≤ old + (2 * events + starts + words + 2 * searches) → new ≤ mid + 2 * ids → ids ≤ starts + events → new ≤ old + (5 * events + 4 * starts + 2 * words + 2 * searches + 2)
side_steps old mid new words starts events searches ids h k few = omega (arith, h, k, few)
