use Rattle.std.proofs.Common.{false}
use Rattle.tl_tests_top.proofs.marks.holds_by_brand.Given as goal

-- the names are those of the opening
abbrev pub ghosts-holds_over-J-Ledger : goal.ghosts-holds_over-J-Ledger
ghosts-holds_over-J-Ledger g a = record { name = a.opening.ledger; parts = a.opening.parts }

abbrev pub ghosts-holds_over-J-Named : goal.ghosts-holds_over-J-Named
ghosts-holds_over-J-Named g a = record { table = a.opening.table; first_entries = a.opening.history.entries; first_count = a.opening.history.first_count; limits = a.opening.history.limits; told = false }
