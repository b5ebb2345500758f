use Rattle.tl_index.proofs.snapshots.Snapshot.due.Given as goal

abbrev pub ghosts-events_after : goal.ghosts-events_after
ghosts-events_after a = record { name = a.blank.name; parts = a.blank.parts }
