use Rattle.std.proofs.Common.{false}
use Rattle.tl_tests_top.proofs.marks.made_by_brand.Given as goal

-- the names are those of the opening
abbrev pub ghosts-made-J-Ledger : goal.ghosts-made-J-Ledger
ghosts-made-J-Ledger g a = record { name = a.opening.ledger; parts = a.opening.parts }

abbrev pub ghosts-made-J-Named : goal.ghosts-made-J-Named
ghosts-made-J-Named g a = record { table = a.opening.table; first_entries = a.opening.history.entries; first_count = a.opening.history.first_count; limits = a.opening.history.limits; told = false }
