-- What a job is over a list of commits: a batch that reads well, a query with its answer, or the
-- first fault. What a batch becomes is settled after it.
use Rattle.std.specs.Prelude.{IsTrue, ◌≡◌, ◌≢◌, ◌⊎◌, ℕ, List, [], length, map, Option, Some, None, Result, Ok, Err}
use Rattle.tl_types.specs.declared.commits.Commit.{Commit}
use Rattle.tl_types.specs.declared.batches.Batch.{Batch}
use Rattle.tl_types.specs.declared.batches.Batch.TheVariants as batch
use Rattle.tl_types.specs.declared.batches.BatchFault.TheVariants as batch_fault
use Rattle.tl_types.specs.declared.answers.Answer.{Answer}
use Rattle.tl_types.specs.Limits.{standard_limits}
use Rattle.tl_types.specs.Plain as plain
use Rattle.tl_types.specs.History.{database_of}
use Rattle.tl_types.specs.Resolving.{find_table}
use Rattle.tl_batch.specs.Made.{batch_matches, names_table}
use Rattle.tl_csv.specs.declared.faults.CsvFault.{CsvFault}
use Rattle.tl_csv.specs.declared.faults.CsvFault.TheVariants as csv_fault
use Rattle.tl_csv.specs.declared.needs.BatchKind.{BatchKind}
use Rattle.tl_csv.specs.declared.needs.BatchKind.TheVariants.{PutKind, RemoveKind, SyncKind}
use Rattle.tl_csv.specs.Answers.{answer_text}
use Rattle.tl_csv.specs.LentBlocks.{block_at}
use Rattle.tl_csv.specs.Block.{batch_of}
use Rattle.tl_query.specs.declared.faults.TextFault.{TextFault}
use Rattle.tl_query.specs.declared.faults.TextFault.TheVariants as text_fault
use Rattle.tl_query.specs.declared.check_faults.CheckFault.{CheckFault}
use Rattle.tl_query.specs.declared.check_faults.CheckFault.TheVariants as check_fault
use Rattle.tl_query.specs.declared.ast.Statement.{Statement}
use Rattle.tl_query.specs.declared.ast.Statement.TheVariants as statement
use Rattle.tl_query.specs.declared.typed_queries.Typed.{Typed}
use Rattle.tl_query.specs.Answers.{answer_of}
use Rattle.tl_query.specs.Checking.{checked_create}
use Rattle.tl_query.specs.CheckingQueries.{checked}
use Rattle.tl_query.specs.Texts.{Spells, IsFault}
use Rattle.tl_jobs.specs.declared.replies.AnswerText.{AnswerText}
use Rattle.tl_jobs.specs.declared.replies.Refusal.{Refusal}
use Rattle.tl_jobs.specs.declared.replies.Refusal.TheVariants as refusal
use Rattle.tl_jobs.specs.declared.readings.JobReading.{JobReading}
use Rattle.tl_jobs.specs.declared.readings.JobReading.TheVariants as reading
use Rattle.tl_jobs.specs.declared.jobs.LentJob.{LentJob}
use Rattle.tl_jobs.specs.Jobs.{Job, job_of}

-- a new table, or the fault of its form
abbrev pub create_reading : Result plain.Schema CheckFault → JobReading
create_reading (Err f) = reading.Fault (refusal.CheckFault f)
create_reading (Ok schema) = reading.Loads (batch.Create schema)

-- the batch of a block, or its fault
abbrev pub block_reading : Result Batch CsvFault → JobReading
block_reading (Err f) = reading.Fault (refusal.CsvFault f)
block_reading (Ok batch) = reading.Loads batch

-- a block for the table that was found, read as this kind of batch under its schema; without a
-- table its fault
abbrev pub load_into : Option (ℕ × plain.Table) → BatchKind → List ℕ → JobReading
load_into None kind block = reading.Fault (refusal.BatchFault batch_fault.UnknownTable)
load_into (Some t) kind block = block_reading (batch_of standard_limits t.1.schema kind block)

-- a block for the table that has this name over the commits
abbrev pub load_reading : List Commit → List ℕ → BatchKind → List ℕ → JobReading
load_reading commits name kind block =
    load_into (find_table name (database_of commits).tables) kind block

-- how many rows an answer has, and these as CSV
abbrev pub text_of_answer : Answer → AnswerText
text_of_answer answer = record { rows = length answer.rows; bytes = answer_text answer }

-- the answer to a query over the tables that the commits make, or the fault of its check
abbrev pub query_reading : List Commit → Result Typed CheckFault → JobReading
query_reading commits (Err f) = reading.Fault (refusal.CheckFault f)
query_reading commits (Ok typed) =
    reading.Query (text_of_answer (record { rows = answer_of (database_of commits) typed }))

-- the bytes of a block, none where there is no block
abbrev pub block_of : Option (List ℕ) → List ℕ
block_of None = []
block_of (Some block) = block

-- the block at the place is the job's
abbrev pub HasBlockAt : LentJob → List (List ℕ) → ℕ → Type 0
HasBlockAt job blocks place = block_at blocks place ≡ block_of (job_of job).block

-- the blocks of the jobs, in order
abbrev pub blocks_of : List Job → List (List ℕ)
blocks_of jobs = map (λ job. block_of job.block) jobs

-- what a statement is over the commits, with these bytes as its block
abbrev pub statement_reading : List Commit → Statement → List ℕ → JobReading
statement_reading commits (statement.Create form) block = create_reading (checked_create form)
statement_reading commits (statement.Put name) block =
    load_reading commits name.text PutKind block
statement_reading commits (statement.Remove name) block =
    load_reading commits name.text RemoveKind block
statement_reading commits (statement.Sync name) block =
    load_reading commits name.text SyncKind block
statement_reading commits (statement.Ask query) block =
    query_reading commits (checked (length commits) (database_of commits) query)
statement_reading commits (statement.Moment moment) block =
    reading.Loads (batch.Moment moment.value)
statement_reading commits (statement.Forget name floor) block =
    reading.Loads (batch.Forget name.text floor.value)

-- a text with a block is the fault of the text, or what the statement is that the text spells
abbrev pub IsReading : List Commit → List ℕ → List ℕ → JobReading → Type 0
IsReading commits text block read =
    ((f : TextFault) × IsFault text f × (read ≡ reading.Fault (refusal.TextFault f)))
    ⊎ ((s : Statement) × Spells text s × (read ≡ statement_reading commits s block))

-- the job is this over the commits
abbrev pub Reads : List Commit → Job → JobReading → Type 0
Reads commits job read = IsReading commits job.text (block_of job.block) read

-- the refusal is not that memory ran out
abbrev pub IsTold : Refusal → Type 0
IsTold (refusal.TextFault f) = f ≢ text_fault.NoMemory
IsTold (refusal.CheckFault f) = f ≢ check_fault.NoMemory
IsTold (refusal.CsvFault f) = f ≢ csv_fault.NoMemory
IsTold (refusal.BatchFault f) = f ≢ batch_fault.NoMemory

-- the same of a reading that is a fault
abbrev pub IsFaultTold : JobReading → Type 0
IsFaultTold (reading.Loads batch) = Unit {0}
IsFaultTold (reading.Query answer) = Unit {0}
IsFaultTold (reading.Fault why) = IsTold why

-- a reading that is a batch: its rows match the schema of its table, where there is one
abbrev pub DoesMatch : plain.Database → JobReading → Type 0
DoesMatch db (reading.Loads batch) = IsTrue (batch_matches db batch)
DoesMatch db (reading.Query answer) = Unit {0}
DoesMatch db (reading.Fault why) = Unit {0}

-- a reading that is a batch of rows: it names a table that is there
abbrev pub IsKnown : plain.Database → JobReading → Type 0
IsKnown db (reading.Loads batch) = IsTrue (names_table db batch)
IsKnown db (reading.Query answer) = Unit {0}
IsKnown db (reading.Fault why) = Unit {0}

-- over the commits a job is one thing, and no other
pub record HasOneReading (commits : List Commit) (job : Job) : Type 0 where
  pub read : (r : JobReading) × Reads commits job r
  pub one : (r s : JobReading) → Reads commits job r → Reads commits job s → r ≡ s
