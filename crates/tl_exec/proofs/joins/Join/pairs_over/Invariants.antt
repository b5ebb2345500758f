use Rattle.tl_exec.proofs.joins.Join.pairs_over.Given as goal

abbrev pub ghosts-counted_pairs : goal.ghosts-counted_pairs
ghosts-counted_pairs a = record { name = a.blank.name; parts = a.blank.parts }
