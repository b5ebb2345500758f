use Rattle.std.proofs.Common.{rules, ◌+◌, drop}
use Rattle.tl_csv.specs.LentBlocks.{block_at, bytes_of, plain_of}
use Rattle.tl_csv.proofs.Lent.{first_behind}
use Rattle.tl_csv.proofs.block_readers.pass_place.Goals as goal

pub returns : goal.returns
returns c =
    let behind = plain_of (drop (c.args.place + 1) c.args.blocks.now) in
    c.in_ok-pass_block.ensures behind (first_behind c.args.records.now (plain_of (drop c.args.place c.args.blocks.now)) (block_at (bytes_of c.args.blocks.now) c.args.place) behind (c.is_plain_at.ensures.first (search rules)) c.requires)
