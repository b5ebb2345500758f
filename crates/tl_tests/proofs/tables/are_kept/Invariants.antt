use Rattle.tl_tests.proofs.tables.are_kept.Given as goal

abbrev pub ghosts-are_read : goal.ghosts-are_read
ghosts-are_read a = record { name = a.blank.name; parts = a.blank.parts }
