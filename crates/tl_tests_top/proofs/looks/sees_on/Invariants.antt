use Rattle.tl_tests_top.proofs.looks.sees_on.Given as goal

abbrev pub ghosts-sees_rows : goal.ghosts-sees_rows
ghosts-sees_rows g a = record { name = a.blank.name; parts = a.blank.parts }
