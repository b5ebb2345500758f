-- A job is one thing, and a block is read for the table that its name finds.
use Rattle.std.proofs.Common.{◌≡◌, ◌⊎◌, inl, inr, ℕ, List, Some, Result, refl, ap, sym, ◌∙◌, slice_get, is_some, true}
use Rattle.std.specs.List.{list_all}
use Rattle.std.specs.Option.{option_map}
use Rattle.tl_types.specs.declared.batches.Batch.{Batch}
use Rattle.tl_types.specs.declared.batches.Batch.TheVariants as batch
use Rattle.tl_types.specs.declared.commits.Commit.{Commit}
use Rattle.tl_types.specs.declared.limits.Limits.{Limits}
use Rattle.tl_types.specs.Limits.{standard_limits}
use Rattle.tl_types.specs.Plain as plain
use Rattle.tl_types.specs.History.{database_of, matches}
use Rattle.tl_types.specs.Resolving.{find_table}
use Rattle.tl_types.proofs.FoundTables.{table_found, schema_found, name_found}
use Rattle.tl_batch.specs.Made.{batch_matches, rows_fit_found, names_table}
use Rattle.tl_csv.specs.declared.faults.CsvFault.{CsvFault}
use Rattle.tl_csv.specs.declared.needs.BatchKind.{BatchKind}
use Rattle.tl_csv.specs.Block.{batch_of, IsBatchFor}
use Rattle.tl_query.specs.declared.ast.Statement.{Statement}
use Rattle.tl_query.specs.declared.faults.TextFault.{TextFault}
use Rattle.tl_query.specs.Texts.{Spells, IsFault, HasOneMeaning}
use Rattle.tl_query.proofs.Deciding.{one_meaning}
use Rattle.tl_jobs.specs.declared.replies.Refusal.TheVariants as refusal
use Rattle.tl_jobs.specs.declared.readings.JobReading.{JobReading}
use Rattle.tl_jobs.specs.declared.readings.JobReading.TheVariants as reading
use Rattle.tl_jobs.specs.Jobs.{Job}
use Rattle.tl_jobs.specs.Reading.{Reads, IsReading, HasOneReading, block_of, block_reading, load_into, load_reading, statement_reading}

-- ONE READING

one_text : (commits : List Commit) (text block : List ℕ) (a b : JobReading) → HasOneMeaning text → IsReading commits text block a → IsReading commits text block b → a ≡ b
one_text commits text block a b h (inl (f, is, e)) (inl (g, was, d)) = e ∙ (ap (λ x. reading.Fault (refusal.TextFault x)) (h.fault f g is was) ∙ sym d)
one_text commits text block a b h (inl (f, is, e)) (inr (t, spells, d)) = absurd (h.never_both t f spells is)
one_text commits text block a b h (inr (s, spells, e)) (inl (g, was, d)) = absurd (h.never_both s g spells was)
one_text commits text block a b h (inr (s, spells, e)) (inr (t, spelt, d)) = e ∙ (ap (λ x. statement_reading commits x block) (h.statement s t spells spelt) ∙ sym d)

some_text : (commits : List Commit) (text block : List ℕ) → ((s : Statement) × Spells text s) ⊎ ((e : TextFault) × IsFault text e) → (r : JobReading) × IsReading commits text block r
some_text commits text block (inl (s, spells)) = (statement_reading commits s block, inr (s, spells, refl))
some_text commits text block (inr (f, is)) = (reading.Fault (refusal.TextFault f), inl (f, is, refl))

pub one_reading : (commits : List Commit) (job : Job) (a b : JobReading) → Reads commits job a → Reads commits job b → a ≡ b
one_reading commits job a b = one_text commits job.text (block_of job.block) a b (one_meaning job.text)

pub has_one_reading : (commits : List Commit) (job : Job) → HasOneReading commits job
has_one_reading commits job = record {
  read = some_text commits job.text (block_of job.block) (one_meaning job.text).either;
  one = one_reading commits job;
}

-- BLOCKS

-- what a block for the table with a name is, is what its batch is
pub lent_load : (commits : List Commit) (name : List ℕ) (kind : BatchKind) (block : List ℕ) (number : ℕ) (schema : plain.Schema) (limits : Limits) (batch : Result Batch CsvFault) → limits ≡ standard_limits → option_map (λ found. found.0) (find_table name (database_of commits).tables) ≡ Some number → Some schema ≡ option_map (λ u. u.schema) (slice_get (database_of commits).tables number) → batch_of limits schema kind block ≡ batch → load_reading commits name kind block ≡ block_reading batch
lent_load commits name kind block number schema limits batch std h e is =
    let f = table_found (database_of commits) name number h in
    let s = schema_found (database_of commits) name number schema f e in
    ap (λ o. load_into o kind block) f.named ∙ (ap (λ t. block_reading (batch_of standard_limits t kind block)) (sym s) ∙ ap (λ (l : Limits). block_reading (batch_of l schema kind block)) (sym std) ∙ ap block_reading is)

-- the table that a batch of rows names, where it is one for the table with the name
put_found : (db : plain.Database) (name own : List ℕ) (number : ℕ) (schema : plain.Schema) → option_map (λ found. found.0) (find_table name db.tables) ≡ Some number → Some schema ≡ option_map (λ u. u.schema) (slice_get db.tables number) → own ≡ schema.name → (t : plain.Table) × (find_table own db.tables ≡ Some (number, t)) × (schema ≡ t.schema)
put_found db name own number schema h e is =
    let f = table_found db name number h in
    let s = schema_found db name number schema f e in
    let named : own ≡ name = is ∙ (ap (λ (t : plain.Schema). t.name) s ∙ name_found 0 name db.tables number f.table f.named) in
    (f.table, ap (λ n. find_table n db.tables) named ∙ f.named, s)

-- the batch of a block for the table with a name matches the tables
pub batch_fits : (db : plain.Database) (name : List ℕ) (number : ℕ) (schema : plain.Schema) (limits : Limits) (kind : BatchKind) (b : Batch) → option_map (λ found. found.0) (find_table name db.tables) ≡ Some number → Some schema ≡ option_map (λ u. u.schema) (slice_get db.tables number) → IsBatchFor limits schema kind b → batch_matches db b ≡ true
batch_fits db name number schema limits kind (batch.Create made) h e is = absurd is
batch_fits db name number schema limits kind (batch.Put own rows) h e is =
    let f = put_found db name own number schema h e is.1 in
    ap (rows_fit_found rows) f.1 ∙ (ap (λ t. list_all (matches t) rows) (sym f.2) ∙ is.2.matching)
batch_fits db name number schema limits kind (batch.Remove own keys) h e is = refl
batch_fits db name number schema limits kind (batch.Sync own rows) h e is =
    let f = put_found db name own number schema h e is.1 in
    ap (rows_fit_found rows) f.1 ∙ (ap (λ t. list_all (matches t) rows) (sym f.2) ∙ is.2.matching)
batch_fits db name number schema limits kind (batch.Moment moment) h e is = refl
batch_fits db name number schema limits kind (batch.Forget own floor) h e is = refl

-- and it finds its table
pub batch_known : (db : plain.Database) (name : List ℕ) (number : ℕ) (schema : plain.Schema) (limits : Limits) (kind : BatchKind) (b : Batch) → option_map (λ found. found.0) (find_table name db.tables) ≡ Some number → Some schema ≡ option_map (λ u. u.schema) (slice_get db.tables number) → IsBatchFor limits schema kind b → names_table db b ≡ true
batch_known db name number schema limits kind (batch.Create made) h e is = absurd is
batch_known db name number schema limits kind (batch.Put own rows) h e is = ap is_some (put_found db name own number schema h e is.1).1
batch_known db name number schema limits kind (batch.Remove own keys) h e is = ap is_some (put_found db name own number schema h e is.1).1
batch_known db name number schema limits kind (batch.Sync own rows) h e is = ap is_some (put_found db name own number schema h e is.1).1
batch_known db name number schema limits kind (batch.Moment moment) h e is = refl
batch_known db name number schema limits kind (batch.Forget own floor) h e is = refl
