-- What the opening of the journal says is said of the history that is made.
use Rattle.tl_history.proofs.FitLemmas.{paces}
use Rattle.tl_history.proofs.OpenLemmas.{nothing_done, refused_there, opened_there}
use Rattle.tl_history.proofs.histories.History.open.Goals as goal

pub returns-in_default : goal.returns-in_default
returns-in_default g c =
    nothing_done g.D.Disk.reads g.D.Disk.may_leave g.D.Disk.moment g.D.Disk.left_since g.D.Disk.faults c.args.limits.now c.args.k c.args.disk (g.met.D.Disk.only_now c.args.disk)

pub over-requires-clause-unbroken : goal.over-requires-clause-unbroken
over-requires-clause-unbroken g c = c.in-Ok-open_journal.ensures.opened.1.unbroken

pub returns-in-Ok-open_journal : goal.returns-in-Ok-open_journal
returns-in-Ok-open_journal g c =
    opened_there g.D.Disk.reads g.D.Disk.may_leave g.D.Disk.moment g.D.Disk.left_since g.D.Disk.faults (record { replay = c.in-Ok.replay; k = c.args.k }) c.args.limits.now c.args.disk c.in-Ok-open_journal.opened c.over.result
    c.over.ensures.value c.over.ensures.whole c.in-Ok-open_journal.ensures

pub returns-in-Err : goal.returns-in-Err
returns-in-Err g c =
    refused_there g.D.Disk.reads g.D.Disk.may_leave g.D.Disk.moment g.D.Disk.left_since g.D.Disk.faults paces (record { replay = c.in-Ok.replay; k = c.args.k }) c.args.limits.now c.args.k c.args.disk c.in-Err.refused c.in-Err.ensures
