use Rattle.tl_tests.proofs.masks.rows_are_told.Given as goal

abbrev pub ghosts-rows_pass : goal.ghosts-rows_pass
ghosts-rows_pass a = record { name = a.blank.name; parts = a.blank.parts }
