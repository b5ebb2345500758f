use Rattle.std.proofs.Common.{false}
use Rattle.tl_tests_top.proofs.commits.both_by_brand.Given as goal

-- the names are those of the opening
abbrev pub ghosts-both_commit-J-Ledger : goal.ghosts-both_commit-J-Ledger
ghosts-both_commit-J-Ledger g a = record { name = a.opening.ledger; parts = a.opening.parts }

abbrev pub ghosts-both_commit-J-Named : goal.ghosts-both_commit-J-Named
ghosts-both_commit-J-Named g a = record { table = a.opening.table; first_entries = a.opening.history.entries; first_count = a.opening.history.first_count; limits = a.opening.history.limits; told = false }
