use Rattle.tl_device.proofs.CrashImages.{image_left, image_length}
use Rattle.tl_device.proofs.memory_disk.MemoryDisk.crash.Goals as goal

pub returns-in_err-image-clause-left : goal.returns-in_err-image-clause-left
returns-in_err-image-clause-left c = rw (← c.self.view_is) (image_left c.args.choice c.self.inside.kept c.self.invariant)

pub returns-in_err-image-clause-length : goal.returns-in_err-image-clause-length
returns-in_err-image-clause-length c = image_length c.args.choice c.args.self.now.kept

pub returns-clause-left : goal.returns-clause-left
returns-clause-left c = rw (← c.self.view_is) (image_left c.args.choice c.self.inside.kept c.self.invariant)

pub returns-clause-length : goal.returns-clause-length
returns-clause-length c = image_length c.args.choice c.args.self.now.kept
