use Rattle.tl_exec.proofs.pieces.DividedScan.runs_over.Given as goal

abbrev pub ghosts-counted_runs : goal.ghosts-counted_runs
ghosts-counted_runs a = record { name = a.blank.name; parts = a.blank.parts }
