-- The table that a commit of a batch of rows changes, and what is seen of its marks afterwards.
use Rattle.std.proofs.Common.{◌≡◌, ◌≢◌, ℕ, ◌+◌, ◌-◌, ◌<◌, ◌≤◌, ◌||◌, ℤ, pos, nat_abs, int_lt, Bool, true, false, cond, List, [], ◌∷◌, ◌++◌, length, slice_get, Option, Some, None, IfSome, Result, Ok, Err, inl, inr, refl, sym, ap, ◌∙◌, subst, arith, append-nil}
use Rattle.std.specs.Prelude.{is_some, nat_le, nat_lt, OnOk}
use Rattle.std.specs.Option.{option_map}
use Rattle.std.specs.List.{list_any}
use Rattle.std.proofs.lemmas.Bool.Decides.{nat_tests}
use Rattle.std.proofs.lemmas.List.Folds.{list_any-append}
use mathlib.Core.List.{IsPrefix}
use Rattle.tl_types.specs.declared.batches.Batch.{Batch}
use Rattle.tl_types.specs.declared.batches.Batch.TheVariants as batch
use Rattle.tl_types.specs.declared.batches.BatchFault.{BatchFault}
use Rattle.tl_types.specs.declared.batches.BatchFault.TheVariants as fault
use Rattle.tl_types.specs.declared.commits.Body.TheVariants as made
use Rattle.tl_types.specs.declared.commits.Commit.{Commit}
use Rattle.tl_types.specs.declared.commits.Entry.{Entry}
use Rattle.tl_types.specs.declared.limits.Limits.{Limits}
use Rattle.tl_types.specs.Entries.{commits_of}
use Rattle.tl_types.specs.History.{database_of, has_name, last_moment}
use Rattle.tl_types.specs.Legality.{has_mark, is_mark}
use Rattle.tl_types.specs.Plain as types
use Rattle.tl_types.specs.Resolving.{BatchLine, find_table, resolved, resolved_change, resolved_floor, resolved_moment, resolved_sync, put_lines, removal_lines, line_fault, open_rows, change_of, conflict_fault, sync_change}
use Rattle.tl_types.proofs.FoundTables.{table_found}
use Rattle.tl_index.specs.Snapshots.{commit_entry, mark_entry}
use Rattle.tl_engine.specs.declared.faults.Tended.{Tended}
use Rattle.tl_engine.specs.declared.faults.Tended.TheVariants as tended
use Rattle.tl_engine.specs.declared.faults.TendFault.{TendFault}
use Rattle.tl_engine.specs.declared.faults.TendFault.TheVariants as tend_fault
use Rattle.tl_engine.specs.Saying.{Adds, becomes}
use Rattle.tl_batch.specs.Made.{names_table}
use Rattle.tl_engine.specs.Tending.{TendSays}
use Rattle.tl_engine.proofs.CountLemmas.{begins_on}
use Rattle.tl_engine.proofs.TendLemmas.{table_known, versions_more}
use Rattle.tl_jobs.specs.declared.readings.JobReading.{JobReading}
use Rattle.tl_jobs.specs.declared.readings.JobReading.TheVariants as reading
use Rattle.tl_jobs.specs.declared.replies.ReplyBody.{ReplyBody}
use Rattle.tl_jobs.specs.declared.replies.ReplyBody.TheVariants as body
use Rattle.tl_jobs.specs.Jobs.{Job}
use Rattle.tl_session.specs.Plain as plain
use Rattle.tl_session.specs.Promises.{BodySays}
use Rattle.tl_jobs.specs.Turns.{meant}
use Rattle.tl_session.specs.Statements.{Tells}
use Rattle.tl_session.specs.Tending.{table_of, reading_table, if_done, IsThere, NamesTable, IsTended, HasTended}
use Rattle.tl_session.proofs.EntryLemmas.{placed}
use Rattle.tl_session.proofs.NumberLemmas.{number_on}

-- THE TABLE OF A COMMIT

-- what the batch becomes, if it is a change, is one of this table
abbrev Of : Option ℕ → Result Commit BatchFault → Type 0
Of table (Err e) = Unit {0}
Of table (Ok c) = (change : types.Change) → c.body ≡ made.Change change → table ≡ Some change.table

of_cond : (table : Option ℕ) (t : Bool) (x y : Result Commit BatchFault) → Of table x → Of table y → Of table (cond t x y)
of_cond table true x y p q = p
of_cond table false x y p q = q

abbrev fault_or : Result Commit BatchFault → Option BatchFault → Result Commit BatchFault
fault_or r (Some e) = Err e
fault_or r None = r

of_option : (table : Option ℕ) (o : Option BatchFault) (r : Result Commit BatchFault) → Of table r → Of table (fault_or r o)
of_option table (Some e) r p = tt
of_option table None r p = p

-- the table that a body changes
abbrev table_in : Rattle.tl_types.specs.declared.commits.Body.Body → Option ℕ
table_in (made.Create schema) = None
table_in (made.Change change) = Some change.table
table_in (made.Moment moment) = None
table_in (made.Forget number floor) = None

of_change : (limits : Limits) (db : types.Database) (a : ℕ) (found : Option (ℕ × types.Table)) (lines : types.Schema → List BatchLine) → Of (option_map (λ (found : ℕ × types.Table). found.0) found) (resolved_change limits db a found lines)
of_change limits db a None lines = tt
of_change limits db a (Some (number, table)) lines =
    let change = change_of number table (lines table.schema) in
    let made : Result Commit BatchFault = Ok (record { author = a; body = made.Change change }) in
    let full = nat_lt limits.rows (length table.rows + length change.opens) in
    let found : Option BatchFault = line_fault table.schema 2 [] (open_rows table) (lines table.schema) in
    of_cond (Some number) (nat_le limits.versions db.version) (Err fault.VersionsFull) (fault_or (cond full (Err fault.RowsFull) made) found) tt
    (of_option (Some number) found (cond full (Err fault.RowsFull) made) (of_cond (Some number) full (Err fault.RowsFull) made tt (λ c is. ap table_in is)))

of_sync : (limits : Limits) (db : types.Database) (a : ℕ) (lines : List types.Opened) (found : Option (ℕ × types.Table)) → Of (option_map (λ (found : ℕ × types.Table). found.0) found) (resolved_sync limits db a lines found)
of_sync limits db a lines None = tt
of_sync limits db a lines (Some (number, table)) =
    let change = sync_change number table lines in
    let made : Result Commit BatchFault = Ok (record { author = a; body = made.Change change }) in
    let full = nat_lt limits.rows (length table.rows + length change.opens) in
    let found : Option BatchFault = conflict_fault table.schema 2 [] lines in
    of_cond (Some number) (nat_le limits.versions db.version) (Err fault.VersionsFull) (fault_or (cond full (Err fault.RowsFull) made) found) tt
    (of_option (Some number) found (cond full (Err fault.RowsFull) made) (of_cond (Some number) full (Err fault.RowsFull) made tt (λ c is. ap table_in is)))

of_create : (limits : Limits) (db : types.Database) (a : ℕ) (schema : types.Schema) → Of None (resolved limits db a (batch.Create schema))
of_create limits db a schema =
    let made : Result Commit BatchFault = Ok (record { author = a; body = made.Create schema }) in
    let third = cond (nat_le limits.versions db.version) (Err fault.VersionsFull) made in
    let second = cond (nat_le limits.tables (length db.tables)) (Err fault.TablesFull) third in
    of_cond None (list_any (has_name schema.name) db.tables) (Err fault.TableExists) second tt
    (of_cond None (nat_le limits.tables (length db.tables)) (Err fault.TablesFull) third tt (of_cond None (nat_le limits.versions db.version) (Err fault.VersionsFull) made tt (λ c is. absurd (cc))))

of_moment : (limits : Limits) (db : types.Database) (a : ℕ) (moment : ℤ) (last : Option ℤ) → Of None (resolved_moment limits db a moment last)
of_moment limits db a moment None =
    of_cond None (nat_le limits.versions db.version) (Err fault.VersionsFull) (Ok (record { author = a; body = made.Moment moment })) tt (λ c is. absurd (cc))
of_moment limits db a moment (Some now) =
    let made : Result Commit BatchFault = Ok (record { author = a; body = made.Moment moment }) in
    of_cond None (nat_le limits.versions db.version) (Err fault.VersionsFull) (cond (int_lt now moment) made (Err (fault.MomentFalls now))) tt
    (of_cond None (int_lt now moment) made (Err (fault.MomentFalls now)) (λ c is. absurd (cc)) tt)

of_floor : (limits : Limits) (db : types.Database) (a : ℕ) (floor : ℤ) (found : Option (ℕ × types.Table)) → Of None (resolved_floor limits db a floor found)
of_floor limits db a floor None = tt
of_floor limits db a floor (Some (number, table)) =
    let made : Result Commit BatchFault = Ok (record { author = a; body = made.Forget number (nat_abs floor) }) in
    let third = cond (int_lt (pos table.floor) floor) made (Err (fault.FloorFalls table.floor)) in
    let second = cond (int_lt (pos db.version) floor) (Err (fault.FloorAhead db.version)) third in
    of_cond None (nat_le limits.versions db.version) (Err fault.VersionsFull) second tt
    (of_cond None (int_lt (pos db.version) floor) (Err (fault.FloorAhead db.version)) third tt (of_cond None (int_lt (pos table.floor) floor) made (Err (fault.FloorFalls table.floor)) (λ c is. absurd (cc)) tt))

of_resolved : (limits : Limits) (db : types.Database) (a : ℕ) (b : Batch) → Of (table_of db b) (resolved limits db a b)
of_resolved limits db a (batch.Create schema) = of_create limits db a schema
of_resolved limits db a (batch.Put name lines) = of_change limits db a (find_table name db.tables) (λ schema. put_lines schema lines)
of_resolved limits db a (batch.Remove name lines) = of_change limits db a (find_table name db.tables) (λ schema. removal_lines lines)
of_resolved limits db a (batch.Sync name lines) = of_sync limits db a lines (find_table name db.tables)
of_resolved limits db a (batch.Moment moment) = of_moment limits db a moment (last_moment db.stamps)
of_resolved limits db a (batch.Forget name floor) = of_floor limits db a floor (find_table name db.tables)

some_number : (o : Option (ℕ × types.Table)) → is_some o ≡ true → (n : ℕ) × (option_map (λ (found : ℕ × types.Table). found.0) o ≡ Some n)
some_number None h = absurd (cc)
some_number (Some x) h = (x.0, refl)

-- a batch that names a table names it by its number also over less
same_number : (old new : List Entry) (name : List ℕ) (n : ℕ) → IsPrefix old new → is_some (find_table name (database_of (commits_of old)).tables) ≡ true
    → option_map (λ (found : ℕ × types.Table). found.0) (find_table name (database_of (commits_of new)).tables) ≡ Some n → option_map (λ (found : ℕ × types.Table). found.0) (find_table name (database_of (commits_of old)).tables) ≡ Some n
same_number old new name n begins known is =
    let m = some_number (find_table name (database_of (commits_of old)).tables) known in
    m.1 ∙ sym (number_on old new name m.0 begins m.1) ∙ is

same_table : (old new : List Entry) (b : Batch) (n : ℕ) → IsPrefix old new → names_table (database_of (commits_of old)) b ≡ true → table_of (database_of (commits_of new)) b ≡ Some n → table_of (database_of (commits_of old)) b ≡ Some n
same_table old new (batch.Create schema) n begins known is = absurd (cc)
same_table old new (batch.Put name lines) n begins known is = same_number old new name n begins known is
same_table old new (batch.Remove name lines) n begins known is = same_number old new name n begins known is
same_table old new (batch.Sync name lines) n begins known is = same_number old new name n begins known is
same_table old new (batch.Moment moment) n begins known is = absurd (cc)
same_table old new (batch.Forget name floor) n begins known is = absurd (cc)

pub adds_later : (old base new : List Entry) (e : Entry) → IsPrefix old base → new ≡ base ++ e ∷ [] → IsPrefix old new
adds_later old base new e begins is = begins_on old base new begins (e ∷ [], sym is)

-- the commit at the version of a reply Done is the one that was added
found_commit : (base new : List Entry) (v : ℕ) (c d : Commit) → IsPrefix (base ++ commit_entry c ∷ []) new → v ≡ length (commits_of base) + 1 → slice_get (commits_of new) (v - 1) ≡ Some d → Some d ≡ Some c
found_commit base new v c d later v_is at =
    let place : v - 1 ≡ length (commits_of base) = omega (arith, v_is) in
    let there = placed base c later.0 new (sym (Rattle.std.proofs.Common.append_assoc base (commit_entry c ∷ []) later.0) ∙ later.1) in
    sym at ∙ ap (slice_get (commits_of new)) place ∙ there

begins_itself : (a : List Entry) → IsPrefix a a
begins_itself a = ([], append-nil a)

pub done_names : (limits : Limits) (author : ℕ) (b : Batch) (old new : List Entry) (v : ℕ) (adds : Adds (becomes limits author b) commit_entry old new) → names_table (database_of (commits_of old)) b ≡ true → v ≡ length (commits_of adds.base) + 1 → NamesTable (table_of (database_of (commits_of old)) b) v body.Done new
done_names limits author b old new v adds known v_is = λ is c change at what.
    let same = found_commit adds.base new v adds.commit c (subst (IsPrefix (adds.base ++ commit_entry adds.commit ∷ [])) (sym adds.entries_are) (begins_itself (adds.base ++ commit_entry adds.commit ∷ []))) v_is at in
    let same2 : c ≡ adds.commit = (let s = same in cc) in
    let all : Of (table_of (database_of (commits_of adds.base)) b) (Ok adds.commit) = subst (Of (table_of (database_of (commits_of adds.base)) b)) adds.makes (of_resolved limits (database_of (commits_of adds.base)) author b) in
    same_table old adds.base b change.table adds.begins known (all change (sym (ap (λ (x : Commit). x.body) same2) ∙ what))

-- WHAT A STATEMENT PASSES ON

pub look_table : (seen : List Entry) (read : JobReading) (b : Batch) (table : Option ℕ) → table ≡ reading_table (database_of (commits_of seen)) read → read ≡ reading.Loads b → table ≡ table_of (database_of (commits_of seen)) b
look_table seen read b table is loads = is ∙ ap (reading_table (database_of (commits_of seen))) loads

pub names_done : (answer : ReplyBody) (table own : Option ℕ) (given : Option ℕ) (v : ℕ) (now : List Entry) → NamesTable own v answer now → table ≡ own → given ≡ if_done answer table → NamesTable given v answer now
names_done answer table own given v now names is told = λ done c change at what.
    told ∙ ap (λ (b : ReplyBody). if_done b table) done ∙ is ∙ names done c change at what

there_some : (old new : List Entry) (name : List ℕ) (table : Option ℕ) → IsPrefix old new → table ≡ option_map (λ (found : ℕ × types.Table). found.0) (find_table name (database_of (commits_of old)).tables) → IsThere table new
there_some old new name None begins is = tt
there_some old new name (Some n) begins is = table_known old new n begins (table_found (database_of (commits_of old)) name n (sym is)).within

there_of : (old new : List Entry) (b : Batch) (table : Option ℕ) → IsPrefix old new → table ≡ table_of (database_of (commits_of old)) b → IsThere table new
there_of old new (batch.Create schema) table begins is = subst (λ t. IsThere t new) (sym is) tt
there_of old new (batch.Put name lines) table begins is = there_some old new name table begins is
there_of old new (batch.Remove name lines) table begins is = there_some old new name table begins is
there_of old new (batch.Sync name lines) table begins is = there_some old new name table begins is
there_of old new (batch.Moment moment) table begins is = subst (λ t. IsThere t new) (sym is) tt
there_of old new (batch.Forget name floor) table begins is = subst (λ t. IsThere t new) (sym is) tt

there_if : (answer : ReplyBody) (new : List Entry) (table : Option ℕ) → IsThere table new → IsThere (if_done answer table) new
there_if (body.Rows r) new table h = tt
there_if (body.Refused f) new table h = tt
there_if body.Done new table h = h
there_if body.DeviceFault new table h = tt
there_if body.BrokenJournal new table h = tt

pub there_done : (answer : ReplyBody) (old new : List Entry) (b : Batch) (table given : Option ℕ) → IsPrefix old new → table ≡ table_of (database_of (commits_of old)) b → given ≡ if_done answer table → IsThere given new
there_done answer old new b table given begins is told = subst (λ t. IsThere t new) (sym told) (there_if answer new table (there_of old new b table begins is))

-- A TABLE IS TENDED

-- the last entry is a mark
mark_there : (es : List Entry) (t v : ℕ) → has_mark (es ++ mark_entry t v ∷ []) t v ≡ true
mark_there es t v =
    list_any-append (is_mark t v) es (mark_entry t v ∷ []) ∙ ap (λ b. list_any (is_mark t v) es || (b || false)) (own t v) ∙ right (list_any (is_mark t v) es) where
      own : (t v : ℕ) → is_mark t v (mark_entry t v) ≡ true
      own t v = grind (arith, nat_tests)

      right : (b : Bool) → (b || (true || false)) ≡ true
      right true = refl
      right false = refl

pub tend_later : (table k : ℕ) (old new : List Entry) (answer : Result Tended TendFault) → TendSays table k old new answer → IsPrefix old new
tend_later table k old new (Ok tended.NotDue) s = s.0
tend_later table k old new (Ok (tended.Built v r)) s = begins_on old s.0.list new s.0.begins s.0.later
tend_later table k old new (Ok (tended.Had v r)) s = begins_on old s.0.list new s.0.begins s.0.later
tend_later table k old new (Err (tend_fault.Broken v r)) s = begins_on old s.0.list new s.0.begins s.0.later
tend_later table k old new (Err tend_fault.NoMemory) s = s

pub tend_done : (table k : ℕ) (old new : List Entry) (answer : Result Tended TendFault) → TendSays table k old new answer → answer ≢ Err tend_fault.NoMemory → IsTended k table (length (commits_of old)) new
tend_done table k old new (Ok tended.NotDue) s other = inr (inr s.1)
tend_done table k old new (Ok (tended.Built v r)) s other =
    inr (inl (v, omega (arith, s.0.version_is, versions_more old s.0.list s.0.begins), ap (λ es. has_mark es table v) s.1.entries_are ∙ mark_there s.1.base table v))
tend_done table k old new (Ok (tended.Had v r)) s other = inr (inl (v, omega (arith, s.0.version_is, versions_more old s.0.list s.0.begins), s.2))
tend_done table k old new (Err (tend_fault.Broken v r)) s other = inl s.1
tend_done table k old new (Err tend_fault.NoMemory) s other = absurd (other refl)

-- A STATEMENT

pub has_tended : (job : Job) (v : ℕ) (answer : ReplyBody) (k : ℕ) (table : Option ℕ) (old mid new : plain.Access) → Tells job v answer old mid → NamesTable table v answer mid.seen → IsPrefix mid.seen new.seen
    → IfSome table (λ t. IsTended k t (length (commits_of mid.seen)) new.seen) → HasTended k v answer new.seen
has_tended job v answer k table old mid new told names later tended = λ done c change at what.
    let b = subst (λ x. BodySays meant job v x old.seen mid.seen) done told.says in
    let base = b.0 in
    let same = found_commit base new.seen v b.1 c (subst (λ es. IsPrefix es new.seen) b.2.1 later) b.3 at in
    let here : slice_get (commits_of mid.seen) (v - 1) ≡ Some c =
    (let place : v - 1 ≡ length (commits_of base) = omega (arith, b.3) in
    ap (slice_get (commits_of mid.seen)) place ∙ placed base b.1 [] mid.seen (sym b.2.1) ∙ sym same) in
    let which = names done c change here what in
    let number : length (commits_of mid.seen) ≡ v = ap (λ es. length (commits_of es)) b.2.1 ∙ one_more base b.1 ∙ sym b.3 in
    subst (λ n. IsTended k change.table n new.seen) number (subst (λ t. IfSome t (λ t. IsTended k t (length (commits_of mid.seen)) new.seen)) which tended) where
      one_more : (base : List Entry) (c : Commit) → length (commits_of (base ++ commit_entry c ∷ [])) ≡ length (commits_of base) + 1
      one_more base c = ap length (Rattle.tl_history.proofs.ListLemmas.commits_more base c) ∙ Rattle.std.proofs.Common.length-append (commits_of base) (c ∷ [])

pub tended_where : {E : Type 0} (r : Result Unit E) (answer : Result Tended TendFault) (given : Option ℕ) (table k : ℕ) (lent old new : List Entry) → OnOk r (answer ≢ Err tend_fault.NoMemory) → given ≡ Some table → TendSays table k lent new answer → lent ≡ old
    → OnOk r (IfSome given (λ t. IsTended k t (length (commits_of old)) new))
tended_where (Err e) answer given table k lent old new on is says same = tt
tended_where (Ok u) answer given table k lent old new on is says same =
    rw is (subst (λ es. IsTended k table (length (commits_of es)) new) same (tend_done table k lent new answer says on))
