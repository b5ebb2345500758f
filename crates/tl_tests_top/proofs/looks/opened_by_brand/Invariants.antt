use Rattle.std.proofs.Common.{false}
use Rattle.tl_tests_top.proofs.looks.opened_by_brand.Given as goal

-- the names are those of the opening
abbrev pub ghosts-opened-J-Ledger : goal.ghosts-opened-J-Ledger
ghosts-opened-J-Ledger g a = record { name = a.opening.ledger; parts = a.opening.parts }

abbrev pub ghosts-opened-J-Named : goal.ghosts-opened-J-Named
ghosts-opened-J-Named g a = record { table = a.opening.table; first_entries = a.opening.history.entries; first_count = a.opening.history.first_count; limits = a.opening.history.limits; told = false }
