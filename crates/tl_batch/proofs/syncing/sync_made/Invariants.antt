use Rattle.tl_batch.proofs.syncing.sync_made.Given as goal

abbrev pub ghosts-sync_rows : goal.ghosts-sync_rows
ghosts-sync_rows a = record { name = a.blank.name; parts = a.blank.parts }
