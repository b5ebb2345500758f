use Rattle.tl_journal.proofs.Phases.{as_before_twice}
use Rattle.tl_journal.proofs.opening.image_of.Goals as goal

pub returns-in_err-buffer-clause-no_memory : goal.returns-in_err-buffer-clause-no_memory
returns-in_err-buffer-clause-no_memory g c is =
    as_before_twice g.D.Disk.reads g.D.Disk.may_leave c.args.disk.now c.length_of.new.disk c.make_ready.new.disk c.length_of.ensures.untouched c.length_of.ensures.no_less c.make_ready.ensures.as_before
