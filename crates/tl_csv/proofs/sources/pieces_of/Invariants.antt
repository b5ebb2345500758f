use Rattle.std.proofs.Common.{◌≡◌, take}
use Rattle.std.specs.List.{flat_map}
use Rattle.tl_csv.specs.LentBlocks.{plain_of}
use Rattle.tl_csv.specs.Separators.{separated_text}
use Rattle.tl_csv.proofs.sources.pieces_of.Given as goal

abbrev pub invariant-loop-block : goal.invariant-loop-block
invariant-loop-block l = flat_map (λ p. p.now) l.pieces.items ≡ separated_text (plain_of (take l.block-index l.blocks))
