-- What the lines of a batch leave of the rows of their keys. In a table without valid time a row
-- has no period, and a line of its key leaves nothing of it.
use Rattle.std.specs.Prelude.{ℕ, suc, ◌+◌, ℤ, Bool, true, false, ◌&&◌, ◌||◌, not, int_lt, List, [], ◌∷◌, ◌++◌, map, Option, Some, None, if◌then◌else◌, slice_get}
use Rattle.std.specs.List.{flat_map, list_any}
use Rattle.tl_types.specs.declared.cells.Cell.{Cell}
use Rattle.tl_types.specs.Plain as plain
use Rattle.tl_types.specs.History.{is_open}
use Rattle.tl_types.specs.Resolving.{BatchLine, overlap, same_key}

-- a line affects a row of its key: always without valid time, and else where they have a part in
-- common
abbrev pub affects_period : Bool → Option plain.Period → Option plain.Period → Bool
affects_period valid line whole = not valid || overlap whole line

-- the times from one on and before another, where there are any
abbrev pub part : ℤ → ℤ → List (Option plain.Period)
part from to = if int_lt from to then Some (record { from = from; to = to }) ∷ [] else []

-- what a line leaves of a period that it affects: the part before it and the part after it
abbrev pub rest_of : Option plain.Period → Option plain.Period → List (Option plain.Period)
rest_of None whole = []
rest_of (Some line) None = []
rest_of (Some line) (Some whole) = part whole.from line.from ++ part line.to whole.to

-- what a line leaves of a period
abbrev pub cut : Bool → Option plain.Period → Option plain.Period → List (Option plain.Period)
cut valid line whole = if affects_period valid line whole then rest_of line whole else whole ∷ []

-- what lines, one after the other, leave of a period
abbrev pub cuts : Bool → List (Option plain.Period) → Option plain.Period
    → List (Option plain.Period)
cuts valid [] whole = whole ∷ []
cuts valid (line ∷ lines) whole = flat_map (cuts valid lines) (cut valid line whole)

-- the periods of the lines that have the key
abbrev pub periods_with : Option Cell → List BatchLine → List (Option plain.Period)
periods_with key [] = []
periods_with key (said ∷ lines) =
    if same_key key said.key then said.period ∷ periods_with key lines else periods_with key lines

-- a line affects the row
abbrev pub is_affected : plain.Schema → List BatchLine → plain.Row → Bool
is_affected schema lines row =
    list_any (λ line. affects_period schema.valid line row.period)
    (periods_with (slice_get row.cells schema.key) lines)

-- the ids of the current rows that a line affects, where the first row has this id
abbrev pub affected_ids : plain.Schema → List BatchLine → ℕ → List plain.Row → List ℕ
affected_ids schema lines id [] = []
affected_ids schema lines id (row ∷ rows) =
    if is_open row && is_affected schema lines row then id ∷ affected_ids schema lines (id + 1) rows
    else affected_ids schema lines (id + 1) rows

-- a row's cells over each of some periods
abbrev pub over : List Cell → List (Option plain.Period) → List plain.Opened
over cells periods = map (λ p. record { cells = cells; period = p }) periods

-- what the lines leave of a row, as rows to be opened
abbrev pub row_pieces : plain.Schema → List BatchLine → List Cell → Option plain.Period
    → List plain.Opened
row_pieces schema lines cells period =
    over cells (cuts schema.valid (periods_with (slice_get cells schema.key) lines) period)

-- what is left of the current rows that a line affects
abbrev pub old_pieces : plain.Schema → List BatchLine → List plain.Row → List plain.Opened
old_pieces schema lines [] = []
old_pieces schema lines (row ∷ rows) =
    if is_open row && is_affected schema lines row then row_pieces schema lines row.cells row.period
    ++ old_pieces schema lines rows else old_pieces schema lines rows

-- what is left of the rows that the lines put, each after the lines behind its own
abbrev pub put_pieces : plain.Schema → List BatchLine → List plain.Opened
put_pieces schema [] = []
put_pieces schema (said ∷ lines) = of_row said.puts ++ put_pieces schema lines where
  of_row : Option plain.Opened → List plain.Opened
  of_row None = []
  of_row (Some row) = row_pieces schema lines row.cells row.period

-- the row is there, and a line with this period affects it
abbrev pub affected_at : Bool → Option plain.Period → Option plain.Row → Bool
affected_at valid line None = false
affected_at valid line (Some row) = affects_period valid line row.period

-- the row is there and current, and a line affects it
abbrev pub is_open_affected : plain.Schema → List BatchLine → Option plain.Row → Bool
is_open_affected schema lines None = false
is_open_affected schema lines (Some row) = is_open row && is_affected schema lines row

-- what the lines leave of the row, where it is there
abbrev pub pieces_at : plain.Schema → List BatchLine → Option plain.Row → List plain.Opened
pieces_at schema lines None = []
pieces_at schema lines (Some row) = row_pieces schema lines row.cells row.period

-- the row is there, and one of the lines with these periods affects it
abbrev pub affected_by : Bool → List (Option plain.Period) → Option plain.Row → Bool
affected_by valid lines None = false
affected_by valid lines (Some row) = list_any (λ line. affects_period valid line row.period) lines

-- the number of ids at the front of which no line with these periods affects the row
abbrev pub apart_from : List (Option plain.Period) → List plain.Row → List ℕ → ℕ
apart_from lines rows [] = 0
apart_from lines rows (id ∷ ids) =
    if affected_by true lines (slice_get rows id) then 0 else suc (apart_from lines rows ids)
