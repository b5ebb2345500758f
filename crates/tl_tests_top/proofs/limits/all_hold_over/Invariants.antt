use Rattle.std.proofs.Common.{false}
use Rattle.tl_tests_top.proofs.limits.all_hold_over.Given as goal

-- the names are those of the opening
abbrev pub ghosts-all_hold-J-Ledger : goal.ghosts-all_hold-J-Ledger
ghosts-all_hold-J-Ledger g a = record { name = a.opening.ledger; parts = a.opening.parts }

abbrev pub ghosts-all_hold-J-Named : goal.ghosts-all_hold-J-Named
ghosts-all_hold-J-Named g a = record { table = a.opening.table; first_entries = a.opening.history.entries; first_count = a.opening.history.first_count; limits = a.opening.history.limits; told = false }
