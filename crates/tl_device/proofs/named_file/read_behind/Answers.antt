use Rattle.std.proofs.Common.{arith, length-take-le}
use borrow.Rule.Slice.PartMut.{take_put}
use Rattle.tl_device.proofs.Filling.{read_in_place}
use Rattle.tl_device.proofs.named_file.read_behind.Goals as goal

-- what stood before is left
pub returns-clause-front : goal.returns-clause-front
returns-clause-front g c = take_put _ _ c.args.into.now _ (omega (arith, c.requires))

-- what the reader lost stands behind it
pub returns-clause-taken : goal.returns-clause-taken
returns-clause-taken g c =
    read_in_place _ _ c.read.result _ c.read.new.buf _ c.args.at (length-take-le _ c.args.into.now (omega (arith, c.requires))) c.read.ensures.bound c.read.ensures.bytes
