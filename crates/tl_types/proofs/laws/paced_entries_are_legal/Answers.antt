use Rattle.tl_types.proofs.MarkLemmas.{paced_commits, paced_legal}
use Rattle.tl_types.proofs.laws.paced_entries_are_legal.Goals as goal

pub returns-clause-commits : goal.returns-clause-commits
returns-clause-commits c = paced_commits

pub returns-clause-legal : goal.returns-clause-legal
returns-clause-legal c = paced_legal
