use Rattle.tl_batch.proofs.making.add_open.Given as goal

abbrev pub ghosts-add_open_from : goal.ghosts-add_open_from
ghosts-add_open_from a = record { name = a.blank.name; parts = a.blank.parts }
