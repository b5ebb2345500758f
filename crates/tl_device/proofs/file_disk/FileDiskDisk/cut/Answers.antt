use Rattle.std.proofs.Common.{inl, refl}
use Rattle.tl_device.proofs.file_disk.FileDiskDisk.cut.Goals as goal

pub returns-in-Ok-clause-crash : goal.returns-in-Ok-clause-crash
returns-in-Ok-clause-crash g c = λ image _. (image, tt, inl refl)

pub returns-in-Err-clause-crash : goal.returns-in-Err-clause-crash
returns-in-Err-clause-crash g c = λ image _. (image, tt, inl refl)
