use Rattle.std.proofs.Common.{refl}
use Rattle.tl_types.specs.Entries.{commits_of}
use Rattle.tl_watch.proofs.StartLemmas.{few_rows, begins, started, start_within}
use Rattle.tl_watch.proofs.starts.start.Goals as goal

pub state_of-requires : goal.state_of-requires
state_of-requires g c =
    begins c.args.plan.now c.args.snapshot.now (commits_of c.args.snapshot.now) c.in_ok-set.set c.requires c.has_break-has_break.ensures.legal refl c.in_ok-set.ensures.long
    (few_rows c.rows-rows.result c.store.result.now c.args.snapshot.now c.args.plan.now.table c.store.ensures c.rows-rows.ensures.number c.rows-rows.ensures.few)

pub returns-in_err-state-clause-steps : goal.returns-in_err-state-clause-steps
returns-in_err-state-clause-steps g c =
    start_within c.args.plan.now c.args.snapshot.now c.in_ok-set.set c.args.steps.now c.standing_set.new.steps c.state_of.new.steps c.in_ok-set.ensures.long c.in_ok-set.ensures.rows c.standing_set.ensures.steps c.state_of.ensures.steps

pub returns-clause-stands : goal.returns-clause-stands
returns-clause-stands g c =
    started c.args.plan.now c.args.snapshot.now (commits_of c.args.snapshot.now) c.in_ok-set.set c.in_ok-state.state c.requires c.has_break-has_break.ensures.legal refl c.in_ok-set.ensures.rows c.in_ok-state.ensures.stands

pub returns-clause-steps : goal.returns-clause-steps
returns-clause-steps g c =
    start_within c.args.plan.now c.args.snapshot.now c.in_ok-set.set c.args.steps.now c.standing_set.new.steps c.state_of.new.steps c.in_ok-set.ensures.long c.in_ok-set.ensures.rows c.standing_set.ensures.steps c.state_of.ensures.steps
