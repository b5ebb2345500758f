use Rattle.std.proofs.Common.{refl}
use Rattle.tl_commands.proofs.HoldsLemmas.{some_same}
use Rattle.tl_commands.proofs.alone.empty_disk.Goals as goal

pub returns-in-Ok : goal.returns-in-Ok
returns-in-Ok c =
    let stored = rw c.in-Ok.is at (c.init-done.ensures.stored c.new-2.result.bytes refl) in
    some_same _ _ stored.reads_as
