-- The disk is the one of the history.
use Rattle.tl_engine.proofs.AttachLemmas.{opens_on}
use Rattle.tl_engine.proofs.attaching.Engine+D+Brand.attach.Goals as goal

pub returns-in-Ok-clause-opens : goal.returns-in-Ok-clause-opens
returns-in-Ok-clause-opens g c =
    opens_on g.D.Disk.reads g.D.Disk.may_leave g.D.Disk.moment g.D.Disk.left_since g.D.Disk.faults c.args.limits.now c.args.k c.args.disk c.in-Ok.history c.opening_over.result
    c.in-Ok.ensures c.opening_over.ensures.history c.opening_over.ensures.fault c.opening_over.ensures.disk
