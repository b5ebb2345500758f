-- The records of a block that are yet to be read.
use Rattle.std.specs.Prelude.{◌≡◌, ℕ, true, false, List, [], if◌then◌else◌}
use Rattle.tl_csv.specs.declared.reading.BlockRecords.{BlockRecords}
use Rattle.csv.specs.declared.reader.Reader.{Reader}
use Rattle.tl_csv.specs.Separators.{AreOfBlocks, before_separator, behind_separator, has_separator}
use Rattle.tl_csv.specs.Reading.{records_left, IsReading}

-- the records of the block that are yet to be read
unfoldable pub block_left : BlockRecords → List (List (List ℕ))
block_left b =
    if b.is_over then []
    else if b.is_one_of_several then before_separator (records_left b.reader.value)
    else records_left b.reader.value

-- the records behind the block's separator
abbrev pub behind_block : BlockRecords → List (List (List ℕ))
behind_block b =
    if b.is_over then records_left b.reader.value
    else behind_separator (records_left b.reader.value)

-- the reader can go on: where the block is not over, and also behind it where it is one of several,
-- and then a separator is behind its last record
pub record IsBlock (b : BlockRecords) : Type 0 where
  pub more : b.is_over ≡ false → IsReading b.reader.value
  pub several : b.is_one_of_several ≡ true → IsReading b.reader.value
  pub separated : b.is_one_of_several ≡ true → b.is_over ≡ false
      → has_separator (records_left b.reader.value) ≡ true

-- from one to the other records of the block alone were read: those behind it are to come
pub record KeepsBlock (old new : BlockRecords) : Type 0 where
  pub block : IsBlock new
  pub several : new.is_one_of_several ≡ old.is_one_of_several
  pub behind : old.is_one_of_several ≡ true → behind_block new ≡ behind_block old

-- the reader stands before the first of these blocks, each of which has a separator behind it
pub record StandsBefore (reader : Reader (List ℕ)) (blocks : List (List ℕ)) : Type 0 where
  pub reading : IsReading reader
  pub records : AreOfBlocks (records_left reader) blocks

-- the block is the first one of these
pub record IsBefore (b : BlockRecords) (blocks : List (List ℕ)) : Type 0 where
  pub several : b.is_one_of_several ≡ true
  pub over : b.is_over ≡ false
  pub stands : StandsBefore b.reader.value blocks
