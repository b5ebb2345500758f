use Rattle.tl_batch.proofs.following.remove_numbers.Given as goal

abbrev pub ghosts-remove_numbers_from : goal.ghosts-remove_numbers_from
ghosts-remove_numbers_from a = record { name = a.blank.name; parts = a.blank.parts }
