use Rattle.std.proofs.Common.{arith}
use Rattle.tl_script.proofs.PendingLemmas.{moved}
use Rattle.tl_script.proofs.pending.move_to_start.Goals as goal

pub returns-clause-same : goal.returns-clause-same
returns-clause-same c = moved c.args.room.now.items c.copy_within.new.self.items c.args.place c.args.end c.requires.ordered (omega (arith, c.requires.within)) c.copy_within.ensures.items
