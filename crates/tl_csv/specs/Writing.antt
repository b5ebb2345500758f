-- What a writer has written.
use Rattle.std.specs.Global.{Vec}
use Rattle.std.specs.Prelude.{ℕ, ◌≡◌, ◌==◌, ◌+◌, ◌<◌, ◌^◌, ◌&&◌, ◌||◌, not, true, false, List, [], ◌∷◌, ◌++◌, length}
use Rattle.csv.specs.Writing.{default_writer, fields_written, has_written, is_blank, row_body, with_flexible, writer_pending, writer_setup, writer_under}
use Rattle.csv.specs.declared.writer.Writer.{Writer}
use Rattle.csv.specs.declared.writer.WriterBuilder.{WriterBuilder}

-- what a writer over bytes has written
abbrev pub bytes_written : Writer (Vec ℕ) → List ℕ
bytes_written writer = (writer_under writer).items ++ writer_pending writer

-- a writer by the defaults, which takes rows of any length
abbrev pub any_length : WriterBuilder
any_length = with_flexible default_writer true

-- the writer writes by the defaults, takes rows of any length, and stands between two rows
pub record IsWriting (writer : Writer (Vec ℕ)) : Type 0 where
  pub setup : writer_setup writer ≡ any_length
  pub fields : fields_written writer ≡ 0
  pub wrote : has_written writer ≡ false

-- the writer writes so, and its buffer is empty
pub record IsIdle (writer : Writer (Vec ℕ)) : Type 0 where
  pub writing : IsWriting writer
  pub empty : writer_pending writer ≡ []

-- the writer has written these bytes, and behind them the fields of a row that is not ended
pub record IsWithinRow (writer : Writer (Vec ℕ)) (bytes : List ℕ) (row : List (List ℕ))
    : Type 0 where
  pub setup : writer_setup writer ≡ any_length
  pub text : bytes_written writer ≡ bytes ++ row_body any_length row
  pub fields : fields_written writer ≡ length row
  pub blank : is_blank any_length row
      ≡ (not (has_written writer) && ((length row == 0) || (length row == 1)))

-- from one writer to the other the row has one field more
pub record WritesField (old new : Writer (Vec ℕ)) (field : List ℕ) : Type 0 where
  pub goes_on : (bytes : List ℕ) (row : List (List ℕ)) → length row + 1 < 2 ^ 64
      → IsWithinRow old bytes row → IsWithinRow new bytes (row ++ field ∷ [])
