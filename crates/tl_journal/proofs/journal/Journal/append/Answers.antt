-- The case of a group of one commit.
use Rattle.std.proofs.Common.{[], ◌∷◌}
use Rattle.tl_journal.proofs.journal.Journal.append.Goals as goal

pub append_all-requires-clause-body : goal.append_all-requires-clause-body
append_all-requires-clause-body g c = (c.requires.body.0 ∷ [], c.requires.body.1)

pub returns-clause-any_moment : goal.returns-clause-any_moment
returns-clause-any_moment g c cs r stands is = c.append_all.ensures.any_moment cs (r ∷ []) stands is

pub returns-clause-now : goal.returns-clause-now
returns-clause-now g c cs r stands is = c.append_all.ensures.now cs (r ∷ []) stands is

pub returns-clause-reads : goal.returns-clause-reads
returns-clause-reads g c cs r stands is = c.append_all.ensures.reads cs (r ∷ []) stands is
