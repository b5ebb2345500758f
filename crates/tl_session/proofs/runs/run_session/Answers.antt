use Rattle.std.proofs.Common.{true, ap, map}
use Rattle.tl_jobs.specs.Jobs.{job_of}
use Rattle.tl_session.specs.Phases.{own_jobs}
use Rattle.tl_session.specs.Plain as plain
use Rattle.tl_session.proofs.ChainLemmas.{ran_nothing}
use Rattle.tl_session.proofs.runs.run_session.Goals as goal

pub returns-in_default-clause-ran : goal.returns-in_default-clause-ran
returns-in_default-clause-ran g c =
    ran_nothing (own_jobs c.args.session.now.access.author (map job_of c.args.jobs.now)) c.args.session.now _ (ap (λ (s : plain.Session). record s { ran_out = true }) c.session.view_is)
