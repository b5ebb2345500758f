use Rattle.tl_log.proofs.tables.tables_bytes.Given as goal

abbrev pub ghosts-tables_text : goal.ghosts-tables_text
ghosts-tables_text a = record { name = a.blank.name; parts = a.blank.parts }
