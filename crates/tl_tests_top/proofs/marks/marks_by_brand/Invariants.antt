use Rattle.std.proofs.Common.{false}
use Rattle.tl_tests_top.proofs.marks.marks_by_brand.Given as goal

-- the names are those of the opening
abbrev pub ghosts-marks_beside_commits-J-Ledger : goal.ghosts-marks_beside_commits-J-Ledger
ghosts-marks_beside_commits-J-Ledger g a = record { name = a.opening.ledger; parts = a.opening.parts }

abbrev pub ghosts-marks_beside_commits-J-Named : goal.ghosts-marks_beside_commits-J-Named
ghosts-marks_beside_commits-J-Named g a = record { table = a.opening.table; first_entries = a.opening.history.entries; first_count = a.opening.history.first_count; limits = a.opening.history.limits; told = false }
