use Rattle.std.proofs.Common.{sym}
use Rattle.tl_script.specs.InHand.{spot_in}
use Rattle.tl_script.proofs.InHandLemmas.{last_says, last_named, some_bytes}
use Rattle.tl_script.proofs.reader.read_last_line.Goals as goal

pub returns-clause-says : goal.returns-clause-says
returns-clause-says c = last_says c.args.phase.now.limits (spot_in c.args.phase.now) (spot_in c.read_line.new.self) c.args.rest.now c.read_line.result c.requires (some_bytes c.args.rest.now (sym c.if-is_empty.ensures)) c.read_line.ensures.step

pub returns-clause-named : goal.returns-clause-named
returns-clause-named c = last_named c.args.phase.now.limits (spot_in c.args.phase.now) (spot_in c.read_line.new.self) c.args.rest.now c.read_line.result c.read_line.ensures.step
