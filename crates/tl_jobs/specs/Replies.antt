-- How replies are spelled.
use Rattle.std.specs.Prelude.{ℕ, List, [], ◌++◌, codes}
use Rattle.std.specs.Fmt.{decimal, signed_decimal}
use Rattle.tl_types.specs.declared.batches.BatchFault.{BatchFault}
use Rattle.tl_types.specs.declared.batches.BatchFault.TheVariants as batch
use Rattle.tl_query.specs.declared.faults.TextFault.{TextFault}
use Rattle.tl_query.specs.declared.faults.TextFault.TheVariants as text
use Rattle.tl_query.specs.declared.check_faults.CheckFault.{CheckFault}
use Rattle.tl_query.specs.declared.check_faults.CheckFault.TheVariants as check
use Rattle.tl_csv.specs.declared.faults.CsvFault.{CsvFault}
use Rattle.tl_csv.specs.declared.faults.CsvFault.TheVariants as csv
use Rattle.tl_jobs.specs.declared.replies.Refusal.{Refusal}
use Rattle.tl_jobs.specs.declared.replies.Refusal.TheVariants as refusal
use Rattle.tl_jobs.specs.declared.replies.ReplyBody.{ReplyBody}
use Rattle.tl_jobs.specs.declared.replies.ReplyBody.TheVariants as body
use Rattle.tl_jobs.specs.declared.replies.Reply.{Reply}

-- THE WORDS OF FAULTS: the fault's name and, after one space each, its fields

-- of a text that spells no statement
abbrev pub text_fault_words : TextFault → List ℕ
text_fault_words (text.BadByte at) = codes "BadByte " ++ decimal at
text_fault_words (text.OpenText at) = codes "OpenText " ++ decimal at
text_fault_words (text.NumberTooLarge at) = codes "NumberTooLarge " ++ decimal at
text_fault_words (text.Unexpected at) = codes "Unexpected " ++ decimal at
text_fault_words text.QueryTooLong = codes "QueryTooLong"
text_fault_words text.NoMemory = []

-- of a statement that does not fit the tables
abbrev pub check_fault_words : CheckFault → List ℕ
check_fault_words (check.UnknownTable at) = codes "UnknownTable " ++ decimal at
check_fault_words (check.UnknownColumn at) = codes "UnknownColumn " ++ decimal at
check_fault_words (check.WrongType at) = codes "WrongType " ++ decimal at
check_fault_words (check.NotValidTable at) = codes "NotValidTable " ++ decimal at
check_fault_words (check.VersionAhead at asked now) =
    codes "VersionAhead "
    ++ (decimal at ++ (codes " " ++ (decimal asked ++ (codes " " ++ decimal now))))
check_fault_words (check.EmptyRange at) = codes "EmptyRange " ++ decimal at
check_fault_words (check.ColumnTwice at) = codes "ColumnTwice " ++ decimal at
check_fault_words check.NoMemory = []
check_fault_words (check.Forgotten at floor) =
    codes "Forgotten " ++ (decimal at ++ (codes " " ++ decimal floor))

-- of a block that is no batch for its table
abbrev pub csv_fault_words : CsvFault → List ℕ
csv_fault_words (csv.NotUtf8 rec column) =
    codes "NotUtf8 " ++ (decimal rec ++ (codes " " ++ decimal column))
csv_fault_words (csv.HeaderMissing column) = codes "HeaderMissing " ++ decimal column
csv_fault_words (csv.HeaderName column) = codes "HeaderName " ++ decimal column
csv_fault_words (csv.HeaderTwice column) = codes "HeaderTwice " ++ decimal column
csv_fault_words (csv.FieldCount rec) = codes "FieldCount " ++ decimal rec
csv_fault_words (csv.NotInt rec column) =
    codes "NotInt " ++ (decimal rec ++ (codes " " ++ decimal column))
csv_fault_words (csv.TextTooLong rec column) =
    codes "TextTooLong " ++ (decimal rec ++ (codes " " ++ decimal column))
csv_fault_words (csv.EmptyPeriod rec) = codes "EmptyPeriod " ++ decimal rec
csv_fault_words (csv.BatchTooLong rec) = codes "BatchTooLong " ++ decimal rec
csv_fault_words csv.NoMemory = []

-- of a batch that becomes no commit
abbrev pub batch_fault_words : BatchFault → List ℕ
batch_fault_words batch.UnknownTable = codes "UnknownTable"
batch_fault_words batch.TableExists = codes "TableExists"
batch_fault_words batch.TablesFull = codes "TablesFull"
batch_fault_words (batch.KeyTwice rec) = codes "KeyTwice " ++ decimal rec
batch_fault_words (batch.NoRow rec) = codes "NoRow " ++ decimal rec
batch_fault_words batch.RowsFull = codes "RowsFull"
batch_fault_words batch.VersionsFull = codes "VersionsFull"
batch_fault_words batch.NoMemory = []
batch_fault_words (batch.MomentFalls now) = codes "MomentFalls " ++ signed_decimal now
batch_fault_words (batch.FloorAhead now) = codes "FloorAhead " ++ decimal now
batch_fault_words (batch.FloorFalls floor) = codes "FloorFalls " ++ decimal floor

-- of any of these
abbrev pub refusal_words : Refusal → List ℕ
refusal_words (refusal.TextFault f) = text_fault_words f
refusal_words (refusal.CheckFault f) = check_fault_words f
refusal_words (refusal.CsvFault f) = csv_fault_words f
refusal_words (refusal.BatchFault f) = batch_fault_words f

-- REPLIES

-- the version and the words behind it, which end a reply's line
abbrev pub version_words : ℕ → List ℕ → List ℕ
version_words version words =
    codes " @" ++ (decimal version ++ (codes " " ++ (words ++ codes "\n")))

-- a reply: NAME @V rows N and the rows as CSV, NAME @V ok, NAME @V ! and the fault's words, or
-- NAME @V ! device and NAME @V ! broken where the journal failed
abbrev pub body_bytes : List ℕ → ℕ → ReplyBody → List ℕ
body_bytes name version (body.Rows answer) =
    name
    ++ (version_words version (codes "rows " ++ decimal answer.rows) ++ answer.bytes)
body_bytes name version body.Done = name ++ version_words version (codes "ok")
body_bytes name version (body.Refused r) =
    name ++ version_words version (codes "! " ++ refusal_words r)
body_bytes name version body.DeviceFault = name ++ version_words version (codes "! device")
body_bytes name version body.BrokenJournal = name ++ version_words version (codes "! broken")

-- the bytes of a reply of the session with the name
abbrev pub reply_bytes : List ℕ → Reply → List ℕ
reply_bytes name reply = body_bytes name reply.version reply.body
