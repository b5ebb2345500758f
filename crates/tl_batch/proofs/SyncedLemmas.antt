-- The commit that lines which say all of a table resolve to.
use Rattle.std.proofs.Common.{◌≡◌, ℕ, ◌+◌, ◌<◌, ◌≤◌, Bool, true, false, ◌&&◌, cond, nat_lt, List, [], ◌∷◌, length, slice_get, Option, Some, None, Result, Ok, Err, subst, refl, sym, ap, ◌∙◌, arith}
use Rattle.std.specs.Option.{option_map}
use Rattle.std.specs.Result.{IfOk}
use Rattle.std.specs.List.{list_all}
use Rattle.std.proofs.lemmas.Bool.{and_from, cond-false, le-leb, lt-leb, lt-ltb}
use Rattle.tl_types.specs.declared.commits.Commit.{Commit}
use Rattle.tl_types.specs.declared.commits.Body.TheVariants as body
use Rattle.tl_types.specs.declared.batches.BatchFault.{BatchFault}
use Rattle.tl_types.specs.declared.batches.BatchFault.TheVariants as fault
use Rattle.tl_types.specs.declared.limits.Limits.{Limits}
use Rattle.tl_types.specs.Plain as plain
use Rattle.tl_types.specs.Facts.{AscendFrom}
use Rattle.tl_types.specs.History.{is_open_at, matches, fits, fits_table}
use Rattle.tl_types.specs.Resolving.{find_table, ids_of, open_rows, conflict_fault, resolved_sync, sync_change, unmatched_rows}
use Rattle.tl_types.proofs.FoundTables.{IsFound}
use Rattle.tl_batch.specs.declared.changing.RowChanges.{RowChanges}
use Rattle.tl_batch.specs.Made.{change_made, committed, unless_fault}
use Rattle.tl_batch.specs.Syncing.{IsSynced, synced_by}
use Rattle.tl_batch.proofs.StandingLemmas.{all_unmatched, ascend_unmatched, fewer_unmatched, open_ascend, open_at, open_few, unmatched_match}

-- WHAT WAS MADE

pub synced_ascend : (t : plain.Table) (lines : List plain.Opened) (made : Result RowChanges BatchFault) → IsSynced t lines made → IfOk made (λ c. AscendFrom 0 c.closes)
synced_ascend t lines (Err f) is = tt
synced_ascend t lines (Ok c) is = subst (AscendFrom 0) (sym is.1) (ascend_unmatched (open_rows t) lines (open_ascend t))

pub synced_few : (t : plain.Table) (lines : List plain.Opened) (made : Result RowChanges BatchFault) → IsSynced t lines made → length t.rows ≤ 16777216 → IfOk made (λ c. length c.closes < 4294967296)
synced_few t lines (Err f) is few = tt
synced_few t lines (Ok c) is few =
    let e : length c.closes ≡ length (ids_of (unmatched_rows (open_rows t) lines)) = ap length is.1 in
    let h = fewer_unmatched (open_rows t) lines in
    let k = open_few t in
    omega arith

pub synced_change : (limit number : ℕ) (t : plain.Table) (lines : List plain.Opened) (made : Result RowChanges BatchFault) (change : Result plain.Change BatchFault) → IsSynced t lines made → change ≡ change_made limit number (length t.rows) made → change ≡ synced_by limit number t lines
synced_change limit number t lines (Err f) change is e = e ∙ sym (ap (unless_fault limit (length t.rows) (sync_change number t lines)) is)
synced_change limit number t lines (Ok c) change is e =
    e
    ∙ (ap (λ ids. unless_fault limit (length t.rows) (record { table = number; closes = ids; opens = c.opens.items }) None) is.1
    ∙ (ap (λ os. unless_fault limit (length t.rows) (record { table = number; closes = (sync_change 0 t lines).closes; opens = os }) None) is.2 ∙ sym (ap (unless_fault limit (length t.rows) (sync_change number t lines)) is.0)))

pub synced_at : (tables : List plain.Table) (number limit : ℕ) (t : plain.Table) (lines : List plain.Opened) (change : Result plain.Change BatchFault) → Some t ≡ slice_get tables number → change ≡ synced_by limit number t lines → Some change ≡ option_map (λ u. synced_by limit number u lines) (slice_get tables number)
synced_at tables number limit t lines change at e = ap Some e ∙ ap (option_map (λ u. synced_by limit number u lines)) at

-- THE COMMIT

by_fault : (limits : Limits) (db : plain.Database) (author number : ℕ) (t : plain.Table) (lines : List plain.Opened) (f : Option BatchFault) → db.version < limits.versions → conflict_fault t.schema 2 [] lines ≡ f
    → resolved_sync limits db author lines (Some (number, t)) ≡ committed author (unless_fault limits.rows (length t.rows) (sync_change number t lines) f)
by_fault limits db author number t lines (Some f) next e = cond-false _ _ _ (lt-leb _ _ next) ∙ rw e refl
by_fault limits db author number t lines None next e = cond-false _ _ _ (lt-leb _ _ next) ∙ rw e (by_room (nat_lt limits.rows (length t.rows + length (sync_change number t lines).opens))) where
  by_room : (b : Bool) → cond b (Err fault.RowsFull) (Ok (record { author = author; body = body.Change (sync_change number t lines) })) ≡ committed author (cond b (Err fault.RowsFull) (Ok (sync_change number t lines)))
  by_room true = refl
  by_room false = refl

some_synced : (limit number : ℕ) (lines : List plain.Opened) (made : Result plain.Change BatchFault) (o : Option plain.Table) (t : plain.Table) → o ≡ Some t → Some made ≡ option_map (λ u. synced_by limit number u lines) o → made ≡ synced_by limit number t lines
some_synced limit number lines made None t at e = absurd (cc)
some_synced limit number lines made (Some u) t at e = let same : u ≡ t = cc in let is : made ≡ synced_by limit number u lines = cc in is ∙ ap (λ v. synced_by limit number v lines) same

pub named_synced : (limits : Limits) (db : plain.Database) (author number : ℕ) (name : List ℕ) (lines : List plain.Opened) (made : Result plain.Change BatchFault) → (n : IsFound db name number) → db.version < limits.versions
    → Some made ≡ option_map (λ t. synced_by limits.rows number t lines) (slice_get db.tables number) → resolved_sync limits db author lines (find_table name db.tables) ≡ committed author made
named_synced limits db author number name lines made n next e =
    ap (resolved_sync limits db author lines) n.named
    ∙ (by_fault limits db author number n.table lines (conflict_fault n.table.schema 2 [] lines) next refl ∙ ap (committed author) (sym (some_synced limits.rows number lines made (slice_get db.tables number) n.table n.at e)))

-- IT FITS

change_fits : (limits : Limits) (db : plain.Database) (author number : ℕ) (t : plain.Table) (lines : List plain.Opened) → slice_get db.tables number ≡ Some t → db.version < limits.versions → list_all (matches t.schema) lines ≡ true → length t.rows + length (sync_change number t lines).opens ≤ limits.rows
    → fits limits db (record { author = author; body = body.Change (sync_change number t lines) }) ≡ true
change_fits limits db author number t lines at next matching few =
    let ch : plain.Change = sync_change number t lines in
    let closes : list_all (is_open_at t.rows) ch.closes ≡ true = all_unmatched (is_open_at t.rows) (open_rows t) lines (open_at t) in
    let opens : list_all (matches t.schema) ch.opens ≡ true = unmatched_match (matches t.schema) (open_rows t) lines matching in
    let inside : fits_table limits ch (Some t) ≡ true = and_from (list_all (is_open_at t.rows) ch.closes && list_all (matches t.schema) ch.opens) _ (and_from (list_all (is_open_at t.rows) ch.closes) (list_all (matches t.schema) ch.opens) closes opens) (le-leb _ _ few) in
    and_from (nat_lt db.version limits.versions) (fits_table limits ch (slice_get db.tables number)) (lt-ltb _ _ next) (ap (fits_table limits ch) at ∙ inside)

made_fits : (limits : Limits) (db : plain.Database) (author number : ℕ) (t : plain.Table) (lines : List plain.Opened) → slice_get db.tables number ≡ Some t → db.version < limits.versions → list_all (matches t.schema) lines ≡ true
    → (f : Option BatchFault) → IfOk (committed author (unless_fault limits.rows (length t.rows) (sync_change number t lines) f)) (λ c. fits limits db c ≡ true)
made_fits limits db author number t lines at next matching (Some f) = tt
made_fits limits db author number t lines at next matching None = by_room (nat_lt limits.rows all) refl where
  all : ℕ
  all = length t.rows + length (sync_change number t lines).opens

  by_room : (b : Bool) → nat_lt limits.rows all ≡ b → IfOk (committed author (cond b (Err fault.RowsFull) (Ok (sync_change number t lines)))) (λ c. fits limits db c ≡ true)
  by_room true h = tt
  by_room false h = let few : all ≤ limits.rows = grind arith in change_fits limits db author number t lines at next matching few

pub synced_fits : (limits : Limits) (db : plain.Database) (author number : ℕ) (name : List ℕ) (lines : List plain.Opened) (made : Result plain.Change BatchFault) → (n : IsFound db name number) → db.version < limits.versions → list_all (matches n.table.schema) lines ≡ true
    → Some made ≡ option_map (λ t. synced_by limits.rows number t lines) (slice_get db.tables number) → (r : Result Commit BatchFault) → r ≡ committed author made → IfOk r (λ c. fits limits db c ≡ true)
synced_fits limits db author number name lines made n next matching e r is =
    subst (λ q. IfOk q (λ c. fits limits db c ≡ true)) (sym (is ∙ ap (committed author) (some_synced limits.rows number lines made (slice_get db.tables number) n.table n.at e)))
    (made_fits limits db author number n.table lines n.at next matching (conflict_fault n.table.schema 2 [] lines))
