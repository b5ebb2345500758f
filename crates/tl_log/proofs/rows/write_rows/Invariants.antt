use Rattle.tl_log.proofs.rows.write_rows.Given as goal

abbrev pub ghosts-write_table : goal.ghosts-write_table
ghosts-write_table g a = record { name = a.blank.name; parts = a.blank.parts }
