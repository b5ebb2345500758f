use Rattle.std.proofs.Common.{arith}
use Rattle.std.proofs.lemmas.List.Sums.{prefix_len-le-length}
use Rattle.std.proofs.lemmas.Str.{IsUtf8-from_ascii}
use Rattle.tl_types.specs.Names.{continues_word}
use Rattle.tl_query.proofs.Closing.{word_ascii}
use Rattle.tl_query.proofs.scanning.word_piece.Goals as goal

pub split_at-requires : goal.split_at-requires
split_at-requires c = omega (arith, prefix_len-le-length continues_word c.args.bytes.now)

pub as_text-requires : goal.as_text-requires
as_text-requires c = rw (c.split_at.ensures.front, c.word_len-len.ensures) (IsUtf8-from_ascii _ (word_ascii c.args.bytes.now))
