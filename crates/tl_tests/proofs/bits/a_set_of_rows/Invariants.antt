use Rattle.tl_tests.proofs.bits.a_set_of_rows.Given as goal

abbrev pub ghosts-a_set_changes : goal.ghosts-a_set_changes
ghosts-a_set_changes g a = record { name = a.blank.name; parts = a.blank.parts }
