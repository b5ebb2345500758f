use Rattle.tl_tests_top.proofs.marks.is_worked_mark.Given as goal

abbrev pub ghosts-has_last_two : goal.ghosts-has_last_two
ghosts-has_last_two a = record { name = a.blank.name; parts = a.blank.parts }
