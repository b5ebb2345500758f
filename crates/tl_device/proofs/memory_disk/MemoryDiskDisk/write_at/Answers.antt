use Rattle.tl_device.proofs.CrashImages.{write_recorded}
use Rattle.tl_device.proofs.memory_disk.MemoryDiskDisk.write_at.Goals as goal

pub invariant_of-self-2 : goal.invariant_of-self-2
invariant_of-self-2 c =
    let within = rw (← c.self.view_is) at c.requires.at in
    write_recorded c.self.inside.kept c.write.new.self c.args.at c.args.from.now within c.write.ensures.wrote c.self.invariant
