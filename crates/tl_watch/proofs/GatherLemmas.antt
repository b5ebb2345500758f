-- What is gathered stands for the rows, and what is made of it too.
use Rattle.std.proofs.Common.{◌≡◌, ℕ, ◌+◌, ◌≤◌, ℤ, Bool, true, false, cond, List, [], ◌∷◌, ◌++◌, length, Option, Some, None, refl, sym, ap, ◌∙◌, arith, subst}
use Rattle.std.specs.Prelude.{◌+ℤ◌, pos}
use Rattle.std.specs.List.{count_by, filter}
use Rattle.std.specs.Map.{lookup}
use Rattle.std.specs.Ordering.{int_eq}
use Rattle.std.proofs.lemmas.Cmp.{int_eq_equiv}
use Rattle.std.proofs.lemmas.List.Sums.{sum_by-append}
use Rattle.tl_types.specs.declared.cells.Cell.{Cell}
use Rattle.tl_types.specs.History.{same_cell, cell_at}
use Rattle.tl_types.specs.Plain as plain
use Rattle.tl_bits.specs.Bags.{times, AddsOne}
use Rattle.tl_bits.specs.Sets.{IsNext, IsFree}
use Rattle.tl_query.specs.declared.ast.AggKind.{AggKind}
use Rattle.tl_query.specs.Aggregates.{has_value}
use Rattle.tl_index.specs.Tables.{rows_in}
use Rattle.tl_keys.specs.Keys.{KeyNumbers, AreApart, no_keys}
use Rattle.tl_running.specs.Heaps.{left_of, count_in}
use Rattle.tl_running.specs.Standing.{Kept, is_ordered, number_in, IsShort, StandsFor, Enters, summing}
use Rattle.tl_running.proofs.HeapLemmas.{left_times}
use Rattle.tl_agg.specs.Kept.{picked}
use Rattle.tl_watch.specs.declared.plans.WatchPlan.{WatchPlan}
use Rattle.tl_watch.specs.Follows.{IsBeginning, IsTaking, rows_begun}
use Rattle.tl_keys.specs.Numbered.{AreNumbered}
use Rattle.tl_watch.specs.Gathering.{RowsOf, row_at, AreOfPlan, gathered_of, KeepsAs, KeepsAsAt, GatheringOf, Gathers, GathersRow, IsGathering}
use Rattle.tl_watch.specs.Groups.{group_of, HoldsRows}
use Rattle.tl_watch.specs.Numbers.{kept_of}
use Rattle.tl_watch.specs.Reading.{RowAt, IsRow}
use Rattle.tl_watch.specs.States.{State, StandsAs, Stands, IsKey, Comes}
use Rattle.tl_watch.proofs.StartLemmas.{begun_taking, begun_more, begun_all, begun_none, takes_row}
use Rattle.tl_watch.proofs.TellLemmas.{none_stands}

-- NUMBERS

listed_times : (numbers : List ℤ) (v : ℤ) → times (left_of numbers []) v ≡ count_by (int_eq v) numbers
listed_times numbers v = let t = left_times numbers [] v in let z : count_in v [] ≡ 0 = refl in omega arith

pub gathered_none : (k : AggKind) (column : Option ℕ) → StandsFor (gathered_of k 0 (pos 0) []) column []
gathered_none k column = record { count = refl; sum = refl; short = tt; bag = λ ordered v. refl }

adds_one : (old new : List ℤ) (n : ℤ) → new ≡ old ++ n ∷ [] → AddsOne (left_of old []) (left_of new []) n
adds_one old new n is v =
    listed_times new v ∙ ap (count_by (int_eq v)) is ∙ sum_by-append (λ x. cond (int_eq v x) 1 0) old (n ∷ []) ∙ ap (λ k. count_by (int_eq v) old + k) one ∙ ap (λ k. k + cond (int_eq n v) 1 0) (sym (listed_times old v)) where
      first : (b : Bool) → 0 + cond b 1 0 ≡ cond b 1 0
      first true = refl
      first false = refl

      one : count_by (int_eq v) (n ∷ []) ≡ cond (int_eq n v) 1 0
      one = first (int_eq v n) ∙ ap (λ b. cond b 1 0) (int_eq_equiv.symm v n)

pub gathers_number : (k : AggKind) (count more : ℕ) (sum total n : ℤ) (old new : List ℤ) (seen : Kept) → gathered_of k count sum old ≡ seen → more ≡ count + 1 → total ≡ sum +ℤ n → (is_ordered k ≡ true → new ≡ old ++ n ∷ []) → Enters seen (gathered_of k more total new) n
gathers_number k count more sum total n old new seen view more_is total_is puts =
    subst (λ s. Enters s (gathered_of k more total new) n) view (record { kind = refl; count = more_is; sum = total_is; bag = λ ordered. adds_one old new n (puts ordered) })

pub keeps_gathered : (k : AggKind) (counted new : Kept) (bag : List (ℤ × ℕ)) (count : ℕ) (sum : ℤ) (numbers : List ℤ) → new ≡ summing counted count sum → (is_ordered k ≡ true → (v : ℤ) → times bag v ≡ count_by (int_eq v) numbers) → KeepsAs (gathered_of k count sum numbers) (kept_of k new bag)
keeps_gathered k counted new bag count sum numbers is found = record {
  kind = refl;
  count = ap (λ (x : Kept). x.count) is;
  sum = ap (λ (x : Kept). x.sum) is;
  bag = λ ordered v. found ordered v ∙ sym (listed_times numbers v);
}

-- what is kept as what stands for rows stands for them
pub keeps_standing : (old new : Kept) (column : Option ℕ) (rows : List plain.Row) → KeepsAs old new → StandsFor old column rows → StandsFor new column rows
keeps_standing old new column rows keeps stands = record {
  count = keeps.count ∙ stands.count;
  sum = keeps.sum ∙ stands.sum;
  short = stands.short;
  bag = λ ordered v. let was : is_ordered old.kind ≡ true = sym (ap is_ordered keeps.kind) ∙ ordered in keeps.bag was v ∙ stands.bag was v;
}

pub keeps_itself : (o : Option Kept) → KeepsAsAt o o
keeps_itself None = tt
keeps_itself (Some k) = record { kind = refl; count = refl; sum = refl; bag = λ ordered v. refl }

keeps_twice : (a b c : Kept) → KeepsAs a b → KeepsAs b c → KeepsAs a c
keeps_twice a b c h k = record {
  kind = k.kind ∙ h.kind;
  count = k.count ∙ h.count;
  sum = k.sum ∙ h.sum;
  bag = λ ordered v. k.bag (ap is_ordered h.kind ∙ ordered) v ∙ h.bag ordered v;
}

-- THE GROUPS BY THEIR VALUES

-- what is found in one list, or else in another
abbrev pub or_else : Option Kept → Option Kept → Option Kept
or_else None o = o
or_else (Some group) o = Some group

last_taken : (x : Cell) (front : List (Cell × Kept)) (e : Cell × Kept) (o : Option Kept) → or_else (lookup (same_cell x) (front ++ e ∷ [])) o ≡ or_else (lookup (same_cell x) front) (cond (same_cell x e.0) (Some e.1) o)
last_taken x [] e o = by_test (same_cell x e.0) where
  by_test : (b : Bool) → or_else (cond b (Some e.1) None) o ≡ cond b (Some e.1) o
  by_test true = refl
  by_test false = refl
last_taken x (f ∷ front) e o = by_test (same_cell x f.0) (last_taken x front e o) where
  by_test : (b : Bool) → or_else (lookup (same_cell x) (front ++ e ∷ [])) o ≡ or_else (lookup (same_cell x) front) (cond (same_cell x e.0) (Some e.1) o)
      → or_else (cond b (Some f.1) (lookup (same_cell x) (front ++ e ∷ []))) o ≡ or_else (cond b (Some f.1) (lookup (same_cell x) front)) (cond (same_cell x e.0) (Some e.1) o)
  by_test true h = refl
  by_test false h = h

keeps_step : (o f s : Option Kept) (b : Bool) (was now : Kept) → KeepsAsAt o (or_else f (cond b (Some was) s)) → KeepsAs was now → KeepsAsAt o (or_else f (cond b (Some now) s))
keeps_step o (Some f) s b was now h keeps = h
keeps_step o None s false was now h keeps = h
keeps_step None None s true was now h keeps = h
keeps_step (Some k) None s true was now h keeps = keeps_twice k was now h keeps

-- one group more is at its value
pub one_sorted : (all groups front sorted new : List (Cell × Kept)) (e : Cell × Kept) (value : Cell) (now : Kept) → ((x : Cell) → KeepsAsAt (group_of all x) (or_else (group_of groups x) (group_of sorted x))) → groups ≡ front ++ e ∷ [] → value ≡ e.0 → KeepsAs e.1 now
    → ((x : Cell) → group_of new x ≡ cond (same_cell x value) (Some now) (group_of sorted x)) → (x : Cell) → KeepsAsAt (group_of all x) (or_else (group_of front x) (group_of new x))
one_sorted all groups front sorted new e value now before last is keeps put x =
    subst (λ o. KeepsAsAt (group_of all x) (or_else (group_of front x) o)) (sym (put x ∙ ap (λ v. cond (same_cell x v) (Some now) (group_of sorted x)) is))
    (keeps_step (group_of all x) (group_of front x) (group_of sorted x) (same_cell x e.0) e.1 now
    (subst (KeepsAsAt (group_of all x)) (ap (λ xs. or_else (group_of xs x) (group_of sorted x)) last ∙ last_taken x front e (group_of sorted x)) (before x)) keeps)

keeps_rows : (old new : Option Kept) (k : AggKind) (column : Option ℕ) (rows : List plain.Row) → KeepsAsAt old new → HoldsRows old k column rows → HoldsRows new k column rows
keeps_rows None None k column rows keeps holds = holds
keeps_rows None (Some new) k column rows keeps holds = absurd keeps
keeps_rows (Some old) None k column rows keeps holds = absurd keeps
keeps_rows (Some old) (Some new) k column rows keeps holds = (keeps.kind ∙ holds.0, holds.1, keeps_standing old new column rows keeps holds.2)

keeps_state : (by column : Option ℕ) (k : AggKind) (old new : State) (rows : List plain.Row) → KeepsAs old.all new.all → ((x : Cell) → KeepsAsAt (group_of old.groups x) (group_of new.groups x)) → StandsAs k column by old rows → StandsAs k column by new rows
keeps_state None column k old new rows all groups stands = (all.kind ∙ stands.0, keeps_standing old.all new.all column rows all stands.1)
keeps_state (Some by) column k old new rows all groups stands = λ value. keeps_rows (group_of old.groups value) (group_of new.groups value) k column (filter (has_value by value) rows) (groups value) (stands value)

-- the state that is made of what was gathered
pub state_stands : (plan : WatchPlan) (gathering : GatheringOf) (all : Kept) (groups : List (Cell × Kept)) (rows : List plain.Row) → KeepsAs gathering.state.all all → ((x : Cell) → KeepsAsAt (group_of gathering.state.groups x) (group_of groups x)) → IsGathering plan gathering rows
    → Stands plan (record { all = all; groups = groups }) rows
state_stands plan gathering all groups rows keeps each is = record {
  kept = keeps_state plan.by plan.column plan.kind gathering.state (record { all = all; groups = groups }) rows keeps each is.stands.kept;
  suits = is.stands.suits;
}

-- NO ROW

pub none_numbered : (keys : KeyNumbers) (groups : List (Cell × Kept)) → keys ≡ no_keys → AreApart keys → groups ≡ [] → AreNumbered keys groups
none_numbered keys groups keys_is apart groups_is = record {
  apart = apart;
  many = ap length groups_is ∙ sym (ap (λ (k : KeyNumbers). k.count) keys_is);
  each = λ n value kept h. absurd (let e = groups_is in let f = ap (λ xs. lookup_at xs n) e in cc);
} where
  lookup_at : List (Cell × Kept) → ℕ → List (Cell × Kept)
  lookup_at xs n = xs

pub none_gathered : (plan : WatchPlan) (gathering : GatheringOf) → gathering.kind ≡ plan.kind → gathering.state.all.kind ≡ plan.kind → ((column : Option ℕ) → StandsFor gathering.state.all column []) → gathering.state.groups ≡ [] → AreNumbered gathering.keys gathering.state.groups → IsGathering plan gathering []
none_gathered plan gathering kind_is all_is stands groups numbered = record {
  kind = kind_is;
  numbered = numbered;
  stands = none_stands plan gathering.state.all gathering.state.groups plan.kind refl all_is stands groups;
}

-- A ROW COMES

pub row_gathers : (plan : WatchPlan) (old new : GatheringOf) (at : RowAt) (n : ℤ) (key : Option Cell) → old.kind ≡ plan.kind → IsShort n → ((row : plain.Row) → IsRow at row → number_in plan.column row ≡ n) → ((row : plain.Row) → IsRow at row → IsKey plan.by row key) → Gathers key old new n → GathersRow plan old new at
row_gathers plan old new at n key kind_is short number_is key_is gathers = record {
  kind = gathers.kind;
  numbered = gathers.numbered;
  takes = takes_row plan old.state new.state at n key short number_is key_is (subst (λ k. Comes k key old.state new.state n) kind_is gathers.comes);
}

-- THE ROWS OF THE SET

pub gathering_taking : (plan : WatchPlan) (of : RowsOf) (members : List Bool) (from id : ℕ) (gathering : GatheringOf) → AreOfPlan plan of → IsBeginning plan of.table.db members → IsNext members from id → IsGathering plan gathering (rows_begun plan of.table.db members from) → IsTaking plan gathering.state (row_at of id)
gathering_taking plan of members from id gathering are b next is =
    begun_taking plan of.table.db members from id gathering.state (row_at of id) b next (ap (λ t. record { db = of.table.db; table = t; id = id }) are.table) is.stands

pub gathering_more : (plan : WatchPlan) (of : RowsOf) (members : List Bool) (from id : ℕ) (old new : GatheringOf) → AreOfPlan plan of → IsBeginning plan of.table.db members → IsNext members from id → IsGathering plan old (rows_begun plan of.table.db members from) → GathersRow plan old new (row_at of id)
    → IsGathering plan new (rows_begun plan of.table.db members (id + 1))
gathering_more plan of members from id old new are b next is row = record {
  kind = row.kind ∙ is.kind;
  numbered = row.numbered;
  stands = begun_more plan of.table.db members from id old.state new.state (row_at of id) b next (ap (λ t. record { db = of.table.db; table = t; id = id }) are.table) is.stands row.takes;
}

pub gathering_all : (plan : WatchPlan) (of : RowsOf) (members : List Bool) (from : ℕ) (gathering : GatheringOf) → from ≤ length members → IsFree members from (length members) → IsGathering plan gathering (rows_begun plan of.table.db members from) → IsGathering plan gathering (picked members (rows_in (record { db = of.table.db; number = plan.table })))
gathering_all plan of members from gathering l free is = record { kind = is.kind; numbered = is.numbered; stands = begun_all plan of.table.db members from gathering.state l free is.stands }

pub gathering_none : (plan : WatchPlan) (db : plain.Database) (members : List Bool) (gathering : GatheringOf) → IsGathering plan gathering [] → IsGathering plan gathering (rows_begun plan db members 0)
gathering_none plan db members gathering is = record { kind = is.kind; numbered = is.numbered; stands = begun_none plan db members gathering.state is.stands }

-- the number of a row is that of the plan
pub number_of_plan : (plan : WatchPlan) (of : RowsOf) (at : RowAt) (n : ℤ) → AreOfPlan plan of → ((row : plain.Row) → IsRow at row → number_in of.column row ≡ n) → (row : plain.Row) → IsRow at row → number_in plan.column row ≡ n
number_of_plan plan of at n are is row there = ap (λ c. number_in c row) (sym are.column) ∙ is row there

-- where no column separates the rows there is no key, and else the row's
pub key_none : (plan : WatchPlan) (at : RowAt) → plan.by ≡ None → (row : plain.Row) → IsRow at row → IsKey plan.by row None
key_none plan at is row there = subst (λ b. IsKey b row None) (sym is) refl

pub key_some : (plan : WatchPlan) (at : RowAt) (by : ℕ) (key : Cell) → plan.by ≡ Some by → ((row : plain.Row) → IsRow at row → cell_at row.cells by ≡ Some key) → (row : plain.Row) → IsRow at row → IsKey plan.by row (Some key)
key_some plan at by key is cell_is row there = subst (λ b. IsKey b row (Some key)) (sym is) (refl, cell_is row there)
