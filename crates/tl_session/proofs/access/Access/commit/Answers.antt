use Rattle.tl_session.proofs.access.Access.commit.Goals as goal

pub returns-clause-says : goal.returns-clause-says
returns-clause-says g c = rw (← c.self.view_is) c.commit.ensures.says
