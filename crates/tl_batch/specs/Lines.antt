-- The keys and valid periods of the lines of a batch.
use Rattle.std.specs.Prelude.{ℕ, List, map, Some, None, slice_get}
use Rattle.tl_types.specs.declared.batches.KeyLine.{KeyLine}
use Rattle.tl_types.specs.Plain as plain
use Rattle.tl_types.specs.Resolving.{BatchLine}

-- the line of a key and a period
abbrev pub line_of : KeyLine → BatchLine
line_of k = record { key = Some k.key; period = k.period; puts = None }

-- the lines of keys and periods
abbrev pub lines_of : List KeyLine → List BatchLine
lines_of ks = map line_of ks

-- the key, which is the cell at a place, and the period of a row that a line puts
abbrev pub line_of_row : ℕ → plain.Opened → BatchLine
line_of_row place row = record { key = slice_get row.cells place; period = row.period; puts = None }
