-- What the open rows of a table are after a SYNC.
use Rattle.std.specs.Prelude.{◌≡◌, ℕ, List, length}
use Rattle.std.specs.List.{filter}
use Rattle.tl_types.specs.Plain as plain
use Rattle.tl_types.specs.Resolving.{WorkingRow, open_rows, same_row}

-- how many rows of the list are the same as a row
abbrev pub how_often : plain.Opened → List WorkingRow → ℕ
how_often row list = length (filter (λ w. same_row w.row row) list)

-- how many lines are the same as a row
abbrev pub how_often_said : plain.Opened → List plain.Opened → ℕ
how_often_said row lines = length (filter (λ line. same_row line row) lines)

-- the open rows of the table are these lines, each as often
abbrev pub AreOpenRows : plain.Table → List plain.Opened → Type 0
AreOpenRows table lines =
    (row : plain.Opened) → how_often row (open_rows table) ≡ how_often_said row lines
