use Rattle.tl_batch.proofs.resolving.remove_made.Given as goal

abbrev pub ghosts-remove_timed : goal.ghosts-remove_timed
ghosts-remove_timed a = record { name = a.blank.name; parts = a.blank.parts }
