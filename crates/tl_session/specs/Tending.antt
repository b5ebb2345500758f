-- The table of a batch of rows, and what is seen of its marks after its commit.
use Rattle.std.specs.Prelude.{◌≡◌, ◌⊎◌, ℕ, ◌≤◌, ◌<◌, ◌-◌, true, false, List, [], ◌∷◌, length, Option, Some, None, IfSome, slice_get}
use Rattle.std.specs.Option.{option_map}
use mathlib.Core.List.{IsPrefix}
use Rattle.tl_types.specs.declared.batches.Batch.{Batch}
use Rattle.tl_types.specs.declared.batches.Batch.TheVariants as batch
use Rattle.tl_types.specs.declared.commits.Body.TheVariants as made
use Rattle.tl_types.specs.declared.commits.Commit.{Commit}
use Rattle.tl_types.specs.declared.commits.Entry.{Entry}
use Rattle.tl_types.specs.Entries.{commits_of, has_break}
use Rattle.tl_types.specs.History.{database_of}
use Rattle.tl_types.specs.Legality.{has_mark}
use Rattle.tl_types.specs.Marks.{due}
use Rattle.tl_types.specs.Plain as plain
use Rattle.tl_types.specs.Resolving.{find_table}
use Rattle.tl_jobs.specs.declared.readings.JobReading.{JobReading}
use Rattle.tl_jobs.specs.declared.readings.JobReading.TheVariants as reading
use Rattle.tl_jobs.specs.declared.replies.ReplyBody.{ReplyBody}
use Rattle.tl_jobs.specs.declared.replies.ReplyBody.TheVariants as body
use Rattle.tl_jobs.specs.declared.replies.Reply.{Reply}

-- the number of the table that a batch of rows names
abbrev pub table_of : plain.Database → Batch → Option ℕ
table_of db (batch.Create schema) = None
table_of db (batch.Put name lines) = option_map (λ found. found.0) (find_table name db.tables)
table_of db (batch.Remove name lines) = option_map (λ found. found.0) (find_table name db.tables)
table_of db (batch.Sync name lines) = option_map (λ found. found.0) (find_table name db.tables)
table_of db (batch.Moment moment) = None
table_of db (batch.Forget name floor) = None

-- the same of a reading
abbrev pub reading_table : plain.Database → JobReading → Option ℕ
reading_table db (reading.Loads b) = table_of db b
reading_table db (reading.Query answer) = None
reading_table db (reading.Fault why) = None

-- the table where the batch is committed, else none
abbrev pub if_done : ReplyBody → Option ℕ → Option ℕ
if_done (body.Rows answer) table = None
if_done (body.Refused f) table = None
if_done body.Done table = table
if_done body.DeviceFault table = None
if_done body.BrokenJournal table = None

-- the table, if any, is among those that are seen
abbrev pub IsThere : Option ℕ → List Entry → Type 0
IsThere table now = IfSome table (λ t. t < length (database_of (commits_of now)).tables)

-- a reply Done at the version is of a change of this table
abbrev pub NamesTable : Option ℕ → ℕ → ReplyBody → List Entry → Type 0
NamesTable table version answer now =
    answer ≡ body.Done → (c : Commit) (change : plain.Change)
    → slice_get (commits_of now) (version - 1) ≡ Some c → c.body ≡ made.Change change
    → table ≡ Some change.table

-- a break is seen, or a mark of the table at this version or a later one, or none is due
abbrev pub IsTended : ℕ → ℕ → ℕ → List Entry → Type 0
IsTended k table version now =
    (has_break now ≡ true)
    ⊎ (((u : ℕ) × (version ≤ u) × (has_mark now table u ≡ true)) ⊎ (due now table k ≡ false))

-- this holds of the table that the commit of a reply Done changed
abbrev pub HasTended : ℕ → ℕ → ReplyBody → List Entry → Type 0
HasTended k version answer now =
    answer ≡ body.Done → (c : Commit) (change : plain.Change)
    → slice_get (commits_of now) (version - 1) ≡ Some c → c.body ≡ made.Change change
    → IsTended k change.table version now

-- this held once the reply was given, when what was seen began these entries and had its commit
pub record WasTended (k : ℕ) (seen : List Entry) (reply : Reply) : Type 0 where
  pub mid : List Entry
  pub begins : IsPrefix mid seen
  pub there : reply.body ≡ body.Done → reply.version ≤ length (commits_of mid)
  pub tended : HasTended k reply.version reply.body mid

-- it held of each of the replies
abbrev pub WereTended : ℕ → List Entry → List Reply → Type 0
WereTended k seen [] = Unit {0}
WereTended k seen (reply ∷ replies) = WasTended k seen reply × WereTended k seen replies
