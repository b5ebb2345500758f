-- What a read gives of a journal that told its bytes.
use Rattle.tl_history.proofs.StandingLemmas.{image_told}
use Rattle.tl_history.proofs.committing.append.Goals as goal

pub returns-in-Ok-clause-reads : goal.returns-in-Ok-clause-reads
returns-in-Ok-clause-reads g c =
    λ cs commit stands body.
    image_told g.D.Disk.reads g.D.Disk.may_leave c.args.journal.now c.append.new.self cs commit stands c.append.ensures.tells (c.append.ensures.reads cs commit stands body)

pub returns-in-Err-Device-clause-reads : goal.returns-in-Err-Device-clause-reads
returns-in-Err-Device-clause-reads g c =
    λ cs commit stands body.
    image_told g.D.Disk.reads g.D.Disk.may_leave c.args.journal.now c.append.new.self cs commit stands c.append.ensures.tells (c.append.ensures.reads cs commit stands body)
