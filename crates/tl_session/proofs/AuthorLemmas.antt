-- The commit that a batch becomes has its author.
use Rattle.std.proofs.Common.{◌≡◌, ℕ, ◌+◌, ℤ, pos, nat_abs, int_lt, nat_le, nat_lt, Bool, true, false, cond, List, [], length, Option, Some, None, Result, Ok, Err, refl, subst}
use Rattle.std.specs.List.{list_any}
use Rattle.tl_types.specs.declared.commits.Commit.{Commit}
use Rattle.tl_types.specs.declared.commits.Body.TheVariants as body
use Rattle.tl_types.specs.declared.batches.Batch.{Batch}
use Rattle.tl_types.specs.declared.batches.Batch.TheVariants as batch
use Rattle.tl_types.specs.declared.batches.BatchFault.{BatchFault}
use Rattle.tl_types.specs.declared.batches.BatchFault.TheVariants as fault
use Rattle.tl_types.specs.declared.limits.Limits.{Limits}
use Rattle.tl_types.specs.Plain as plain
use Rattle.tl_types.specs.History.{has_name, last_moment}
use Rattle.tl_types.specs.Resolving.{BatchLine, find_table, resolved, resolved_change, resolved_floor, resolved_moment, resolved_sync, put_lines, removal_lines, line_fault, open_rows, change_of, conflict_fault, sync_change}

-- a result is no commit, or one by the author
abbrev By : ℕ → Result Commit BatchFault → Type 0
By a (Ok c) = c.author ≡ a
By a (Err f) = Unit {0}

by_cond : (a : ℕ) (t : Bool) (x y : Result Commit BatchFault) → By a x → By a y → By a (cond t x y)
by_cond a true x y p q = p
by_cond a false x y p q = q

abbrev fault_or : Result Commit BatchFault → Option BatchFault → Result Commit BatchFault
fault_or r (Some e) = Err e
fault_or r None = r

by_option : (a : ℕ) (o : Option BatchFault) (r : Result Commit BatchFault) → By a r → By a (fault_or r o)
by_option a (Some e) r p = tt
by_option a None r p = p

change_by : (limits : Limits) (db : plain.Database) (a : ℕ) (found : Option (ℕ × plain.Table)) (lines : plain.Schema → List BatchLine) → By a (resolved_change limits db a found lines)
change_by limits db a None lines = tt
change_by limits db a (Some (number, table)) lines =
    let change = change_of number table (lines table.schema) in
    let made : Result Commit BatchFault = Ok (record { author = a; body = body.Change change }) in
    let full = nat_lt limits.rows (length table.rows + length change.opens) in
    let found : Option BatchFault = line_fault table.schema 2 [] (open_rows table) (lines table.schema) in
    by_cond a (nat_le limits.versions db.version) (Err fault.VersionsFull) (fault_or (cond full (Err fault.RowsFull) made) found) tt (by_option a found (cond full (Err fault.RowsFull) made) (by_cond a full (Err fault.RowsFull) made tt refl))

sync_by : (limits : Limits) (db : plain.Database) (a : ℕ) (lines : List plain.Opened) (found : Option (ℕ × plain.Table)) → By a (resolved_sync limits db a lines found)
sync_by limits db a lines None = tt
sync_by limits db a lines (Some (number, table)) =
    let change = sync_change number table lines in
    let made : Result Commit BatchFault = Ok (record { author = a; body = body.Change change }) in
    let full = nat_lt limits.rows (length table.rows + length change.opens) in
    let found : Option BatchFault = conflict_fault table.schema 2 [] lines in
    by_cond a (nat_le limits.versions db.version) (Err fault.VersionsFull) (fault_or (cond full (Err fault.RowsFull) made) found) tt (by_option a found (cond full (Err fault.RowsFull) made) (by_cond a full (Err fault.RowsFull) made tt refl))

create_by : (limits : Limits) (db : plain.Database) (a : ℕ) (schema : plain.Schema) → By a (resolved limits db a (batch.Create schema))
create_by limits db a schema =
    let made : Result Commit BatchFault = Ok (record { author = a; body = body.Create schema }) in
    let third = cond (nat_le limits.versions db.version) (Err fault.VersionsFull) made in
    let second = cond (nat_le limits.tables (length db.tables)) (Err fault.TablesFull) third in
    by_cond a (list_any (has_name schema.name) db.tables) (Err fault.TableExists) second tt
    (by_cond a (nat_le limits.tables (length db.tables)) (Err fault.TablesFull) third tt (by_cond a (nat_le limits.versions db.version) (Err fault.VersionsFull) made tt refl))

moment_by : (limits : Limits) (db : plain.Database) (a : ℕ) (moment : ℤ) (last : Option ℤ) → By a (resolved_moment limits db a moment last)
moment_by limits db a moment None =
    by_cond a (nat_le limits.versions db.version) (Err fault.VersionsFull) (Ok (record { author = a; body = body.Moment moment })) tt refl
moment_by limits db a moment (Some now) =
    let made : Result Commit BatchFault = Ok (record { author = a; body = body.Moment moment }) in
    by_cond a (nat_le limits.versions db.version) (Err fault.VersionsFull) (cond (int_lt now moment) made (Err (fault.MomentFalls now))) tt (by_cond a (int_lt now moment) made (Err (fault.MomentFalls now)) refl tt)

floor_by : (limits : Limits) (db : plain.Database) (a : ℕ) (floor : ℤ) (found : Option (ℕ × plain.Table)) → By a (resolved_floor limits db a floor found)
floor_by limits db a floor None = tt
floor_by limits db a floor (Some (number, table)) =
    let made : Result Commit BatchFault = Ok (record { author = a; body = body.Forget number (nat_abs floor) }) in
    let third = cond (int_lt (pos table.floor) floor) made (Err (fault.FloorFalls table.floor)) in
    let second = cond (int_lt (pos db.version) floor) (Err (fault.FloorAhead db.version)) third in
    by_cond a (nat_le limits.versions db.version) (Err fault.VersionsFull) second tt
    (by_cond a (int_lt (pos db.version) floor) (Err (fault.FloorAhead db.version)) third tt (by_cond a (int_lt (pos table.floor) floor) made (Err (fault.FloorFalls table.floor)) refl tt))

resolved_by : (limits : Limits) (db : plain.Database) (a : ℕ) (b : Batch) → By a (resolved limits db a b)
resolved_by limits db a (batch.Create schema) = create_by limits db a schema
resolved_by limits db a (batch.Put name lines) = change_by limits db a (find_table name db.tables) (λ schema. put_lines schema lines)
resolved_by limits db a (batch.Remove name lines) = change_by limits db a (find_table name db.tables) (λ schema. removal_lines lines)
resolved_by limits db a (batch.Sync name lines) = sync_by limits db a lines (find_table name db.tables)
resolved_by limits db a (batch.Moment moment) = moment_by limits db a moment (last_moment db.stamps)
resolved_by limits db a (batch.Forget name floor) = floor_by limits db a floor (find_table name db.tables)

pub signed : (limits : Limits) (db : plain.Database) (b : Batch) (a : ℕ) (c : Commit) → resolved limits db a b ≡ Ok c → c.author ≡ a
signed limits db b a c is = subst (By a) is (resolved_by limits db a b)
