use Rattle.tl_batch.proofs.making.open_rows.Given as goal

abbrev pub ghosts-open_rows_from : goal.ghosts-open_rows_from
ghosts-open_rows_from a = record { name = a.blank.name; parts = a.blank.parts }
