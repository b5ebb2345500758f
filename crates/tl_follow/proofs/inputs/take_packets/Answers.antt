use Rattle.std.proofs.Common.{subst}
use Rattle.tl_follow.specs.Packets.{IsFront}
use Rattle.tl_follow.proofs.ReaderLemmas.{takes_more}
use Rattle.tl_follow.proofs.inputs.take_packets.Goals as goal

pub reading-preserved : goal.reading-preserved
reading-preserved c =
    let front = subst (IsFront c.args.bytes.now c.reading.at) c.in-Whole.is c.in_ok-packet.ensures in
    record {
      within = front.2;
      takes = takes_more c.args.from c.args.bytes.now c.reading.at c.in-Whole.field-0.end c.in-Whole.field-0.packet c.args.follower.now c.reading.follower c.take.new.self
          c.reading.invariant.takes front.0 front.1 front.2 c.in_ok-take-in-Whole.ensures;
    }
