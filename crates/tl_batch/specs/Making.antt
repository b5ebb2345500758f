-- The keys of the rows of which ids by key are made.
use Rattle.std.specs.Prelude.{Bool, false, Option, Some, None}
use Rattle.tl_types.specs.declared.cells.Cell.{Cell}
use Rattle.tl_types.specs.History.{same_cell}

-- there is a key, and it is this one
abbrev pub is_key : Option Cell → Cell → Bool
is_key None x = false
is_key (Some key) x = same_cell x key
