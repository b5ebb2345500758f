-- The records that a reader has yet to give.
use Rattle.std.specs.Prelude.{ℕ, ◌+◌, ◌≡◌, true, false, List, [], length, Option, Some, None, IsSome}
use Rattle.csv.specs.Machine.{ends_at_end}
use Rattle.csv.specs.Reading.{Ready, default_config, is_flexible, reader_config, reader_state, reader_trim, records_from, source_of}
use Rattle.csv.specs.declared.parser.State.{State}
use Rattle.csv.specs.declared.reader.Reader.{Reader}
use Rattle.csv.specs.declared.reader.Trim.TheVariants as trim

-- the bytes that a reader over bytes has yet to read
abbrev pub bytes_unread : Reader (List ℕ) → Option (List ℕ)
bytes_unread reader = source_of (λ (bytes : List ℕ). Some bytes) reader

-- the records of bytes, read on from a state
abbrev pub records_on : State → Option (List ℕ) → List (List (List ℕ))
records_on state None = []
records_on state (Some bytes) = records_from default_config (length bytes + 1) state bytes

-- the records that a reader has yet to give
abbrev pub records_left : Reader (List ℕ) → List (List (List ℕ))
records_left reader = records_on (reader_state reader) (bytes_unread reader)

-- the reader reads by the defaults, takes records of any length, stands between two records, and
-- its bytes are known
pub record IsReading (reader : Reader (List ℕ)) : Type 0 where
  pub config : reader_config reader ≡ default_config
  pub flexible : is_flexible reader ≡ true
  pub trim : reader_trim reader ≡ trim.None
  pub ready : Ready reader
  pub between : ends_at_end (reader_state reader) ≡ false
  pub known : IsSome (bytes_unread reader)
