-- The first commit that does not fit, where all is spelled well.
use Rattle.tl_replay.proofs.ReadLemmas.{all_there, read_there, unfit_there, place_of_err}
use Rattle.tl_replay.proofs.replaying.apply_all.Goals as goal

pub returns-in-None-clause-applied : goal.returns-in-None-clause-applied
returns-in-None-clause-applied g c =
    all_there g.A.Applies.makes c.args.limits.now c.args.first c.apply_fitting.new.found_commits c.in_ok-applied.applied c.in_ok-applied.unfit c.in-None.is c.in_ok-applied.ensures.stops

pub pass_over-requires : goal.pass_over-requires
pass_over-requires g c =
    read_there g.A.Applies.makes c.args.limits.now c.args.first c.apply_fitting.new.found_commits c.in_ok-applied.applied c.in_ok-applied.unfit c.in-Some.at c.in-Some.is c.in_ok-applied.ensures.stops

pub returns-in_ok-pass_over-in-Some-clause-damaged : goal.returns-in_ok-pass_over-in-Some-clause-damaged
returns-in_ok-pass_over-in-Some-clause-damaged g c =
    λ at e.
    unfit_there g.A.Applies.makes c.args.limits.now c.args.first c.apply_fitting.new.found_commits c.in_ok-applied.applied c.in_ok-applied.unfit c.in-Some.at at
    c.args.found_commits.now.image c.in-Some.is c.in_ok-applied.ensures.stops c.in_ok-pass_over-in-Some.ensures.whole
    c.apply_fitting.ensures.image (place_of_err c.in-Some.at at e)
