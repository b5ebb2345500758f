use Rattle.tl_group.proofs.PaceLemmas.{alone_paced}
use Rattle.tl_group.proofs.attaching.group_of.Goals as goal

pub over-requires-clause-alone : goal.over-requires-clause-alone
over-requires-clause-alone g c = alone_paced _ c.args.history.entries c.into_parts-journal.ensures.snapshot c.requires.opened.pace
