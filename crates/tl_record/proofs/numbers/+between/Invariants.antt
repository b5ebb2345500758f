use Rattle.tl_record.proofs.numbers.+between.Given as goal

abbrev pub decreases-between : goal.decreases-between
decreases-between l = l.count
