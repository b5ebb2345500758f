use Rattle.std.proofs.Common.{◌≡◌, map, take}
use Rattle.tl_csv.specs.LentBlocks.{bytes_of, plain_of}
use Rattle.tl_csv.specs.Separators.{ArePlain}
use Rattle.tl_csv.proofs.lent_blocks.lent_blocks.Given as goal

abbrev pub invariant-loop-block : goal.invariant-loop-block
invariant-loop-block l = ArePlain (plain_of l.lent.items) × (bytes_of l.lent.items ≡ map (λ b. b.now) (take l.block-index l.blocks))
