use Rattle.tl_tests_top.proofs.moments.counts_on.Given as goal

abbrev pub ghosts-counts_at_three : goal.ghosts-counts_at_three
ghosts-counts_at_three g a = record { name = a.blank.name; parts = a.blank.parts }
