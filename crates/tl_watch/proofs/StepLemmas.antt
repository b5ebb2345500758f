-- One row more of a change is closed, or opened.
use Rattle.std.proofs.Common.{◌≡◌, ℕ, zero, suc, ◌+◌, ◌<◌, ◌≤◌, ℤ, Bool, true, false, cond, List, [], ◌∷◌, ◌++◌, length, map, take, get_or, Option, Some, refl, sym, ap, ◌∙◌, arith, subst, slice_get, length-append, append_assoc}
use Rattle.std.specs.List.{filter, list_all}
use Rattle.std.proofs.lemmas.List.{length-map}
use Rattle.std.proofs.lemmas.Option.{slice_get-get_or}
use Rattle.tl_types.specs.declared.cells.Cell.{Cell}
use Rattle.tl_types.specs.Plain as plain
use Rattle.tl_types.specs.History.{rows_of, new_row, is_open_at}
use Rattle.tl_types.proofs.Lists.{and_left, and_right, open_within}
use Rattle.tl_query.specs.declared.ast.AggKind.{AggKind}
use Rattle.tl_query.specs.declared.ast.AggKind.TheVariants as kind
use Rattle.tl_query.specs.declared.typed_queries.TypedPred.{TypedPred}
use Rattle.tl_query.specs.Passing.{passes}
use Rattle.tl_running.specs.Standing.{HaveNumbers, Suits, IsShort, number_in, Inserts}
use Rattle.tl_watch.specs.declared.plans.WatchPlan.{WatchPlan}
use Rattle.tl_watch.specs.Standings.{left_rows}
use Rattle.tl_watch.specs.Reading.{RowAt, IsRow}
use Rattle.tl_watch.specs.Follows.{IsReady, rows_closing, rows_opening, IsLeaving, LeavesRow, IsRoomy, EntersRow}
use Rattle.tl_watch.specs.States.{State, Stands, IsKey, TellsRow, CanCome, CanGo, Comes, Goes}
use Rattle.tl_watch.proofs.LeftLemmas.{closed_row, out_row, fresh_at, open_at, left_few}
use Rattle.tl_watch.proofs.GroupLemmas.{filter_few}
use Rattle.tl_watch.proofs.StandLemmas.{can_come, row_comes, can_go, row_goes}

-- ROWS OF WHICH EACH HAS A NUMBER

have_member : (column : Option ℕ) (front back : List plain.Row) (r : plain.Row) → HaveNumbers column (front ++ r ∷ back) → HaveNumbers column (r ∷ [])
have_member column [] back r h = (h.0, tt)
have_member column (x ∷ front) back r h = have_member column front back r h.1

suits_member : (k : AggKind) (column : Option ℕ) (front back : List plain.Row) (r : plain.Row) → Suits k column (front ++ r ∷ back) → Suits k column (r ∷ [])
suits_member kind.Count column front back r s = tt
suits_member kind.Sum column front back r s = have_member column front back r s
suits_member kind.Avg column front back r s = have_member column front back r s
suits_member kind.Min column front back r s = have_member column front back r s
suits_member kind.Max column front back r s = have_member column front back r s

tells : (plan : WatchPlan) (state : State) (fewer more : List plain.Row) (row : plain.Row) (n : ℤ) (key : Option Cell) → Stands plan state more → Inserts row fewer more → IsShort n → number_in plan.column row ≡ n → IsKey plan.by row key → TellsRow plan row n key
tells plan state fewer more row n key stands ins short number_is key_is = record {
  number_is = number_is;
  short = short;
  suits = suits_member plan.kind plan.column ins.front ins.back row (subst (Suits plan.kind plan.column) ins.with stands.suits);
  key_is = key_is;
}

-- A ROW GOES

pub leaving_can : (plan : WatchPlan) (state : State) (at : RowAt) (n : ℤ) (key : Option Cell) → IsLeaving plan state at → IsShort n → ((row : plain.Row) → IsRow at row → number_in plan.column row ≡ n) → ((row : plain.Row) → IsRow at row → IsKey plan.by row key) → CanGo key state n
leaving_can plan state at n key l short number_is key_is =
    can_go plan state l.fewer l.more l.row n key l.stands (tells plan state l.fewer l.more l.row n key l.stands l.inserts short (number_is l.row l.there) (key_is l.row l.there)) l.inserts l.few

pub leaves_row : (plan : WatchPlan) (old new : State) (at : RowAt) (n : ℤ) (key : Option Cell) → IsShort n → ((row : plain.Row) → IsRow at row → number_in plan.column row ≡ n) → ((row : plain.Row) → IsRow at row → IsKey plan.by row key) → Goes key old new n → LeavesRow plan old new at
leaves_row plan old new at n key short number_is key_is goes row fewer more there stands ins =
    row_goes plan old new fewer more row n key stands (tells plan old fewer more row n key stands ins short (number_is row there) (key_is row there)) ins goes

-- A ROW COMES

behind : (rows : List plain.Row) (r : plain.Row) → Inserts r rows (rows ++ r ∷ [])
behind rows r = record { front = rows; back = []; without = sym (append_nil rows); with = refl } where
  append_nil : (xs : List plain.Row) → xs ++ [] ≡ xs
  append_nil [] = refl
  append_nil (x ∷ xs) = ap (λ ys. x ∷ ys) (append_nil xs)

pub roomy_can : (plan : WatchPlan) (state : State) (opened : plain.Opened) (key : Option Cell) → IsRoomy plan state → ((version : ℕ) → IsKey plan.by (new_row version opened) key) → CanCome key state
roomy_can plan state opened key room key_is = can_come plan state room.rows (new_row 0 opened) key room.stands (key_is 0) room.few

pub enters_row : (plan : WatchPlan) (old new : State) (opened : plain.Opened) (n : ℤ) (key : Option Cell) → IsShort n → ((version : ℕ) → number_in plan.column (new_row version opened) ≡ n) → ((version : ℕ) → IsKey plan.by (new_row version opened) key) → Comes plan.kind key old new n → EntersRow plan old new opened
enters_row plan old new opened n key short number_is key_is comes version rows suits stands =
    row_comes plan old new rows (rows ++ new_row version opened ∷ []) (new_row version opened) n key stands
    (record { number_is = number_is version; short = short; suits = suits; key_is = key_is version }) (behind rows (new_row version opened)) comes

-- CLOSING

open_id : (rows : List plain.Row) (ids : List ℕ) (i id : ℕ) → list_all (is_open_at rows) ids ≡ true → slice_get ids i ≡ Some id → is_open_at rows id ≡ true
open_id rows [] i id h e = absurd (cc)
open_id rows (x ∷ ids) zero id h e = let s : x ≡ id = cc in subst (λ y. is_open_at rows y ≡ true) s (and_left (is_open_at rows x) (list_all (is_open_at rows) ids) h)
open_id rows (x ∷ ids) (suc i) id h e = open_id rows ids i id (and_right (is_open_at rows x) (list_all (is_open_at rows) ids) h) e

pub id_at : (xs ys : List ℕ) (i : ℕ) → xs ≡ ys → i < length ys → slice_get ys i ≡ Some (get_or xs i 0)
id_at xs ys i e l = slice_get-get_or ys i 0 l ∙ ap (λ zs. Some (get_or zs i 0)) (sym e)

pub close_within : (plan : WatchPlan) (db : plain.Database) (change : plain.Change) (i id : ℕ) → IsReady plan db change → slice_get change.closes i ≡ Some id → id < length (rows_of db plan.table)
close_within plan db change i id ready there = open_within (rows_of db plan.table) id (open_id (rows_of db plan.table) change.closes i id ready.closes there)

take_one : (ids : List ℕ) (i id : ℕ) → slice_get ids i ≡ Some id → take (i + 1) ids ≡ take i ids ++ id ∷ []
take_one [] i id e = absurd (cc)
take_one (x ∷ ids) zero id e = let s : x ≡ id = cc in rw s refl
take_one (x ∷ ids) (suc i) id e = let n : suc i + 1 ≡ suc (i + 1) = omega arith in rw n (ap (λ ys. x ∷ ys) (take_one ids i id e))

inserted_at : (plan : WatchPlan) (db : plain.Database) (change : plain.Change) (i id : ℕ) (row : plain.Row) → IsReady plan db change → slice_get change.closes i ≡ Some id → slice_get (rows_of db plan.table) id ≡ Some row → passes plan.pred row ≡ true
    → Inserts row (rows_closing plan db change (i + 1)) (rows_closing plan db change i)
inserted_at plan db change i id row ready at_i there pass =
    subst (λ ids. Inserts row (left_rows plan.pred ids (rows_of db plan.table)) (left_rows plan.pred (take i change.closes) (rows_of db plan.table))) (sym (take_one change.closes i id at_i))
    (closed_row plan.pred (take i change.closes) id (rows_of db plan.table) row there (open_at (rows_of db plan.table) id row (open_id (rows_of db plan.table) change.closes i id ready.closes at_i) there) (fresh_at 0 change.closes i id ready.ascends at_i) pass)

pub row_there : (rows : List plain.Row) (id : ℕ) → id < length rows → (r : plain.Row) × (slice_get rows id ≡ Some r)
row_there [] id l = absurd (omega arith)
row_there (r ∷ rows) zero l = (r, refl)
row_there (r ∷ rows) (suc id) l = row_there rows id (omega arith)

pub close_leaving : (plan : WatchPlan) (db : plain.Database) (change : plain.Change) (state : State) (i id : ℕ) (at : RowAt) (pass : Bool) → IsReady plan db change → slice_get change.closes i ≡ Some id → at ≡ record { db = db; table = plan.table; id = id }
    → Stands plan state (rows_closing plan db change i) → ((row : plain.Row) → IsRow at row → pass ≡ passes plan.pred row) → pass ≡ true → IsLeaving plan state at
close_leaving plan db change state i id at pass ready at_i at_is stands told yes_it =
    let found = row_there (rows_of db plan.table) id (close_within plan db change i id ready at_i) in
    let there : IsRow at found.0 = rw at_is found.1 in record {
      row = found.0;
      fewer = rows_closing plan db change (i + 1);
      more = rows_closing plan db change i;
      there = there;
      stands = stands;
      inserts = inserted_at plan db change i id found.0 ready at_i found.1 (sym (told found.0 there) ∙ yes_it);
      few = let l = left_few plan.pred (take i change.closes) 0 (rows_of db plan.table) in let f = ready.few in omega arith;
    }

pub closed_one : (plan : WatchPlan) (db : plain.Database) (change : plain.Change) (old new : State) (i id : ℕ) (at : RowAt) (pass : Bool) → IsReady plan db change → slice_get change.closes i ≡ Some id → at ≡ record { db = db; table = plan.table; id = id }
    → Stands plan old (rows_closing plan db change i) → ((row : plain.Row) → IsRow at row → pass ≡ passes plan.pred row) → pass ≡ true → LeavesRow plan old new at → Stands plan new (rows_closing plan db change (i + 1))
closed_one plan db change old new i id at pass ready at_i at_is stands told yes_it leaves =
    let found = row_there (rows_of db plan.table) id (close_within plan db change i id ready at_i) in
    let there : IsRow at found.0 = rw at_is found.1 in
    leaves found.0 (rows_closing plan db change (i + 1)) (rows_closing plan db change i) there stands (inserted_at plan db change i id found.0 ready at_i found.1 (sym (told found.0 there) ∙ yes_it))

pub closed_out : (plan : WatchPlan) (db : plain.Database) (change : plain.Change) (state : State) (i id : ℕ) (at : RowAt) (pass : Bool) → IsReady plan db change → slice_get change.closes i ≡ Some id → at ≡ record { db = db; table = plan.table; id = id }
    → Stands plan state (rows_closing plan db change i) → ((row : plain.Row) → IsRow at row → pass ≡ passes plan.pred row) → pass ≡ false → Stands plan state (rows_closing plan db change (i + 1))
closed_out plan db change state i id at pass ready at_i at_is stands told not_it =
    let found = row_there (rows_of db plan.table) id (close_within plan db change i id ready at_i) in
    let there : IsRow at found.0 = rw at_is found.1 in
    let same = out_row plan.pred (take i change.closes) id (rows_of db plan.table) found.0 found.1 (sym (told found.0 there) ∙ not_it) in
    subst (Stands plan state) (sym (ap (λ ids. left_rows plan.pred ids (rows_of db plan.table)) (take_one change.closes i id at_i) ∙ same)) stands

-- all rows are closed, and none is opened
nil_behind : (xs : List plain.Row) → xs ≡ xs ++ []
nil_behind [] = refl
nil_behind (x ∷ xs) = ap (λ ys. x ∷ ys) (nil_behind xs)

take_whole : (ids : List ℕ) → take (length ids) ids ≡ ids
take_whole [] = refl
take_whole (x ∷ ids) = ap (λ ys. x ∷ ys) (take_whole ids)

pub closed_all : (plan : WatchPlan) (db : plain.Database) (change : plain.Change) (state : State) (i : ℕ) → i ≡ length change.closes → Stands plan state (rows_closing plan db change i) → Stands plan state (rows_opening plan db change 0)
closed_all plan db change state i e stands =
    subst (Stands plan state) (ap (λ n. left_rows plan.pred (take n change.closes) (rows_of db plan.table)) e ∙ ap (λ ids. left_rows plan.pred ids (rows_of db plan.table)) (take_whole change.closes) ∙ nil_behind (left_rows plan.pred change.closes (rows_of db plan.table))) stands

-- OPENING

take_opened : (opens : List plain.Opened) (i : ℕ) (o : plain.Opened) → slice_get opens i ≡ Some o → take (i + 1) opens ≡ take i opens ++ o ∷ []
take_opened [] i o e = absurd (cc)
take_opened (x ∷ opens) zero o e = let s : x ≡ o = cc in rw s refl
take_opened (x ∷ opens) (suc i) o e = let n : suc i + 1 ≡ suc (i + 1) = omega arith in rw n (ap (λ ys. x ∷ ys) (take_opened opens i o e))

opened_more : (pred : TypedPred) (w : ℕ) (front : List plain.Opened) (o : plain.Opened) → filter (passes pred) (map (new_row w) (front ++ o ∷ [])) ≡ filter (passes pred) (map (new_row w) front) ++ cond (passes pred (new_row w o)) (new_row w o ∷ []) []
opened_more pred w [] o = refl
opened_more pred w (x ∷ front) o = step (passes pred (new_row w x)) (opened_more pred w front o) where
  last : List plain.Row
  last = cond (passes pred (new_row w o)) (new_row w o ∷ []) []

  step : (b : Bool) → filter (passes pred) (map (new_row w) (front ++ o ∷ [])) ≡ filter (passes pred) (map (new_row w) front) ++ last
      → cond b (new_row w x ∷ filter (passes pred) (map (new_row w) (front ++ o ∷ []))) (filter (passes pred) (map (new_row w) (front ++ o ∷ []))) ≡ cond b (new_row w x ∷ filter (passes pred) (map (new_row w) front)) (filter (passes pred) (map (new_row w) front)) ++ last
  step true e = ap (λ xs. new_row w x ∷ xs) e
  step false e = e

pub opened_at : (xs ys : List plain.Opened) (i : ℕ) (o : plain.Opened) → xs ≡ ys → i < length ys → o ≡ get_or xs i o → slice_get ys i ≡ Some o
opened_at xs ys i o e l is = slice_get-get_or ys i o l ∙ ap (λ zs. Some (get_or zs i o)) (sym e) ∙ ap Some (sym is)

opening_more : (plan : WatchPlan) (db : plain.Database) (change : plain.Change) (i : ℕ) (o : plain.Opened) → slice_get change.opens i ≡ Some o
    → rows_opening plan db change (i + 1) ≡ rows_opening plan db change i ++ cond (passes plan.pred (new_row (db.version + 1) o)) (new_row (db.version + 1) o ∷ []) []
opening_more plan db change i o e =
    ap (λ os. left_rows plan.pred change.closes (rows_of db plan.table) ++ filter (passes plan.pred) (map (new_row (db.version + 1)) os)) (take_opened change.opens i o e)
    ∙ ap (λ rs. left_rows plan.pred change.closes (rows_of db plan.table) ++ rs) (opened_more plan.pred (db.version + 1) (take i change.opens) o)
    ∙ sym (append_assoc (left_rows plan.pred change.closes (rows_of db plan.table)) (filter (passes plan.pred) (map (new_row (db.version + 1)) (take i change.opens))) (cond (passes plan.pred (new_row (db.version + 1) o)) (new_row (db.version + 1) o ∷ []) []))

split_at : (w : ℕ) (opens : List plain.Opened) (i : ℕ) (o : plain.Opened) → slice_get opens i ≡ Some o → (front : List plain.Row) × (back : List plain.Row) × (map (new_row w) opens ≡ front ++ new_row w o ∷ back)
split_at w [] i o e = absurd (cc)
split_at w (x ∷ opens) zero o e = let s : x ≡ o = cc in ([], map (new_row w) opens, ap (λ y. new_row w y ∷ map (new_row w) opens) s)
split_at w (x ∷ opens) (suc i) o e = let h = split_at w opens i o e in (new_row w x ∷ h.0, h.1, ap (λ ys. new_row w x ∷ ys) h.2)

pub opened_one : (plan : WatchPlan) (db : plain.Database) (change : plain.Change) (old new : State) (i : ℕ) (o : plain.Opened) (pass : Bool) → IsReady plan db change → slice_get change.opens i ≡ Some o → Stands plan old (rows_opening plan db change i)
    → ((version : ℕ) → pass ≡ passes plan.pred (new_row version o)) → pass ≡ true → EntersRow plan old new o → Stands plan new (rows_opening plan db change (i + 1))
opened_one plan db change old new i o pass ready at_i stands told yes_it enters =
    let w = db.version + 1 in
    let h = split_at w change.opens i o at_i in
    let suits = suits_member plan.kind plan.column h.0 h.1 (new_row w o) (subst (Suits plan.kind plan.column) h.2 ready.opens_suit) in
    subst (Stands plan new) (sym (opening_more plan db change i o at_i ∙ ap (λ b. rows_opening plan db change i ++ cond b (new_row w o ∷ []) []) (sym (told w) ∙ yes_it)))
    (enters w (rows_opening plan db change i) suits stands)

pub opened_out : (plan : WatchPlan) (db : plain.Database) (change : plain.Change) (state : State) (i : ℕ) (o : plain.Opened) (pass : Bool) → slice_get change.opens i ≡ Some o → Stands plan state (rows_opening plan db change i)
    → ((version : ℕ) → pass ≡ passes plan.pred (new_row version o)) → pass ≡ false → Stands plan state (rows_opening plan db change (i + 1))
opened_out plan db change state i o pass at_i stands told not_it =
    let w = db.version + 1 in
    subst (Stands plan state) (sym (opening_more plan db change i o at_i ∙ ap (λ b. rows_opening plan db change i ++ cond b (new_row w o ∷ []) []) (sym (told w) ∙ not_it) ∙ sym (nil_behind (rows_opening plan db change i)))) stands

take_few : (opens : List plain.Opened) (i : ℕ) → length (take i opens) ≤ length opens
take_few [] zero = omega arith
take_few [] (suc i) = omega arith
take_few (x ∷ opens) zero = omega arith
take_few (x ∷ opens) (suc i) = let l = take_few opens i in omega arith

pub open_roomy : (plan : WatchPlan) (db : plain.Database) (change : plain.Change) (state : State) (i : ℕ) → IsReady plan db change → Stands plan state (rows_opening plan db change i) → IsRoomy plan state
open_roomy plan db change state i ready stands = record {
  rows = rows_opening plan db change i;
  stands = stands;
  few =
      let a = left_few plan.pred change.closes 0 (rows_of db plan.table) in
      let b = filter_few (passes plan.pred) (map (new_row (db.version + 1)) (take i change.opens)) in
      let c = length-map (take i change.opens) (new_row (db.version + 1)) in
      let d = take_few change.opens i in
      let e = length-append (left_rows plan.pred change.closes (rows_of db plan.table)) (filter (passes plan.pred) (map (new_row (db.version + 1)) (take i change.opens))) in
      let f = ready.few in
      omega arith;
}
