use Rattle.tl_csv.proofs.Lent.{pieces_more}
use Rattle.tl_csv.proofs.sources.pieces_of.Goals as goal

pub loop-block-preserved : goal.loop-block-preserved
loop-block-preserved c = pieces_more c.loop-block.pieces.items c.push_plain.new.pieces.items c.args.blocks.now c.loop-block.block-index _ c.loop-block-test.true c.in_ok-push_plain.ensures c.loop-block.invariant
