use Rattle.tl_tests.proofs.events.events_of_two_versions.Given as goal

abbrev pub ghosts-two_versions : goal.ghosts-two_versions
ghosts-two_versions g a = record { name = a.blank.name; parts = a.blank.parts }
