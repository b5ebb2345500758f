-- What a batch is over some commits, it is over more: tables stay in their places, under their
-- names.
use Rattle.std.proofs.Common.{◌≡◌, inl, inr, ℕ, List, ◌++◌, Option, Some, None, Result, Ok, Err, refl, sym, ap, ◌∙◌, subst}
use Rattle.std.proofs.lemmas.List.Sums.{fold-append}
use mathlib.Core.List.{IsPrefix}
use Rattle.std.specs.List.{fold}
use Rattle.tl_types.specs.declared.batches.Batch.{Batch}
use Rattle.tl_types.specs.declared.commits.Commit.{Commit}
use Rattle.tl_types.specs.declared.commits.Entry.{Entry}
use Rattle.tl_types.specs.Limits.{standard_limits}
use Rattle.tl_types.specs.Plain as plain
use Rattle.tl_types.specs.Entries.{commits_of}
use Rattle.tl_types.specs.History.{database_of, after_commit, nothing}
use Rattle.tl_types.specs.Resolving.{find_table}
use Rattle.tl_types.proofs.BodyLemmas.{StaysKnown, known_later}
use Rattle.tl_csv.specs.declared.needs.BatchKind.{BatchKind}
use Rattle.tl_csv.specs.declared.needs.BatchKind.TheVariants.{PutKind, RemoveKind, SyncKind}
use Rattle.tl_csv.specs.Block.{batch_of}
use Rattle.tl_query.specs.declared.ast.Statement.{Statement}
use Rattle.tl_query.specs.declared.ast.Statement.TheVariants as statement
use Rattle.tl_query.specs.declared.typed_queries.Typed.{Typed}
use Rattle.tl_query.specs.declared.check_faults.CheckFault.{CheckFault}
use Rattle.tl_query.specs.CheckingQueries.{checked}
use Rattle.tl_jobs.specs.declared.readings.JobReading.{JobReading}
use Rattle.tl_jobs.specs.declared.readings.JobReading.TheVariants as reading
use Rattle.tl_jobs.specs.Jobs.{Job}
use Rattle.tl_jobs.specs.Reading.{Reads, IsReading, block_of, block_reading, load_into, load_reading, query_reading, statement_reading}
use Rattle.tl_session.proofs.EntryLemmas.{commits_split}

-- the schema of the table that a name finds
abbrev schema_in : Option (ℕ × plain.Table) → Option plain.Schema
schema_in None = None
schema_in (Some found) = Some found.1.schema

-- what is found still has its schema
schema_stays : (old now : Option (ℕ × plain.Table)) (schema : plain.Schema) → StaysKnown old now → schema_in old ≡ Some schema → schema_in now ≡ Some schema
schema_stays None now schema stays h = absurd (cc)
schema_stays (Some x) None schema stays h = absurd stays
schema_stays (Some x) (Some y) schema stays h = ap Some stays.1 ∙ h

-- a table that a name finds is found after more commits, with its schema
found_more : (name : List ℕ) (schema : plain.Schema) (commits more : List Commit) → schema_in (find_table name (database_of commits).tables) ≡ Some schema → schema_in (find_table name (database_of (commits ++ more)).tables) ≡ Some schema
found_more name schema commits more h =
    let found = find_table name (database_of commits).tables in
    let stays = subst (λ (db : plain.Database). StaysKnown found (find_table name db.tables)) (sym (fold-append after_commit nothing commits more)) (known_later name (database_of commits) more) in
    schema_stays found (find_table name (database_of (commits ++ more)).tables) schema stays h

-- READINGS

-- a block for a table of the schema
load_found : (found : Option (ℕ × plain.Table)) (schema : plain.Schema) (kind : BatchKind) (block : List ℕ) → schema_in found ≡ Some schema → load_into found kind block ≡ block_reading (batch_of standard_limits schema kind block)
load_found None schema kind block h = absurd (cc)
load_found (Some t) schema kind block h = ap (λ o. by_schema o) h where
  by_schema : Option plain.Schema → JobReading
  by_schema None = block_reading (batch_of standard_limits t.1.schema kind block)
  by_schema (Some s) = block_reading (batch_of standard_limits s kind block)

-- what loads has found its table
load_finds : (found : Option (ℕ × plain.Table)) (kind : BatchKind) (block : List ℕ) (b : Batch) → reading.Loads b ≡ load_into found kind block → (schema : plain.Schema) × (schema_in found ≡ Some schema)
load_finds None kind block b h = absurd (cc)
load_finds (Some t) kind block b h = (t.1.schema, refl)

load_more : (commits more : List Commit) (name : List ℕ) (kind : BatchKind) (block : List ℕ) (b : Batch) → reading.Loads b ≡ load_reading commits name kind block → reading.Loads b ≡ load_reading (commits ++ more) name kind block
load_more commits more name kind block b h =
    let f = load_finds (find_table name (database_of commits).tables) kind block b h in
    h ∙ load_found (find_table name (database_of commits).tables) f.0 kind block f.1
    ∙ sym (load_found (find_table name (database_of (commits ++ more)).tables) f.0 kind block (found_more name f.0 commits more f.1))

no_query : (commits : List Commit) (r : Result Typed CheckFault) (b : Batch) → reading.Loads b ≡ query_reading commits r → ⊥
no_query commits (Ok typed) b h = absurd (cc)
no_query commits (Err f) b h = absurd (cc)

loads_more : (commits more : List Commit) (s : Statement) (block : List ℕ) (b : Batch) → reading.Loads b ≡ statement_reading commits s block → reading.Loads b ≡ statement_reading (commits ++ more) s block
loads_more commits more (statement.Create form) block b h = h
loads_more commits more (statement.Put name) block b h = load_more commits more name.text PutKind block b h
loads_more commits more (statement.Remove name) block b h = load_more commits more name.text RemoveKind block b h
loads_more commits more (statement.Sync name) block b h = load_more commits more name.text SyncKind block b h
loads_more commits more (statement.Moment moment) block b h = h
loads_more commits more (statement.Forget name floor) block b h = h
loads_more commits more (statement.Ask query) block b h = absurd (no_query commits (checked (Rattle.std.specs.Prelude.length commits) (database_of commits) query) b h)

text_more : (commits more : List Commit) (text block : List ℕ) (b : Batch) → IsReading commits text block (reading.Loads b) → IsReading (commits ++ more) text block (reading.Loads b)
text_more commits more text block b (inl (f, is, e)) = absurd (cc)
text_more commits more text block b (inr (s, spells, e)) = inr (s, spells, loads_more commits more s block b e)

-- a batch that a job is over some commits, it is over more
pub reads_more : (commits more : List Commit) (job : Job) (b : Batch) → Reads commits job (reading.Loads b) → Reads (commits ++ more) job (reading.Loads b)
reads_more commits more job b r = text_more commits more job.text (block_of job.block) b r

-- the same over entries that begin others
pub reads_on : (old new : List Entry) (job : Job) (b : Batch) → IsPrefix old new → Reads (commits_of old) job (reading.Loads b) → Reads (commits_of new) job (reading.Loads b)
reads_on old new job b p r = subst (λ l. Reads l job (reading.Loads b)) (sym (commits_split old p.0) ∙ ap commits_of p.1) (reads_more (commits_of old) (commits_of p.0) job b r)
