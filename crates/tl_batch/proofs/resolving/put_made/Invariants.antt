use Rattle.tl_batch.proofs.resolving.put_made.Given as goal

abbrev pub ghosts-put_timed : goal.ghosts-put_timed
ghosts-put_timed a = record { name = a.blank.name; parts = a.blank.parts }
