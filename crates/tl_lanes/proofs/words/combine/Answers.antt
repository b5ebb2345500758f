use Rattle.std.proofs.Common.{arith}
use Rattle.tl_lanes.proofs.Zipped.{combined_all}
use Rattle.tl_lanes.proofs.words.combine.Goals as goal

pub returns : goal.returns
returns g c =
    let made = c.combine_lanes-from.ensures in
    combined_all g.O.WordOperation.value c.args.left.now c.combine_lanes-from.new.left c.combine_rest.new.left c.args.right.now
    c.combine_lanes-from.result (omega arith) made.within made.front made.back c.combine_rest.ensures
