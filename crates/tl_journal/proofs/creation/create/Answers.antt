use Rattle.std.proofs.Common.{rules, ◌≡◌, Err}
use Rattle.tl_journal.specs.declared.faults.JournalFault.TheVariants as fault
use Rattle.tl_journal.proofs.Phases.{as_before_twice}
use Rattle.tl_journal.proofs.creation.create.Goals as goal

pub returns-in_err-settle-clause-no_memory : goal.returns-in_err-settle-clause-no_memory
returns-in_err-settle-clause-no_memory g c is =
    let e : c.settle.result ≡ Err fault.NoMemory = search rules in
    as_before_twice g.D.Disk.reads g.D.Disk.may_leave c.args.disk.now c.length_of.new.disk c.settle.new.disk c.length_of.ensures.untouched c.length_of.ensures.no_less (c.settle.ensures.no_memory e)
