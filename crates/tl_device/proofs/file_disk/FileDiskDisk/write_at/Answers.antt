use Rattle.tl_device.proofs.Undo.{torn_same}
use Rattle.tl_device.proofs.file_disk.FileDiskDisk.write_at.Goals as goal

pub returns-in-Ok-clause-crash : goal.returns-in-Ok-clause-crash
returns-in-Ok-clause-crash g c = λ image _. (image, tt, torn_same _ _ image)

pub returns-in-Err-clause-crash : goal.returns-in-Err-clause-crash
returns-in-Err-clause-crash g c = λ image _. (image, tt, torn_same _ _ image)
