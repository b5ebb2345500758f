use Rattle.tl_query.proofs.Utf8.{behind_quote}
use Rattle.tl_query.proofs.scanning.piece_of.Goals as goal

pub quoted_piece-requires-clause-utf8 : goal.quoted_piece-requires-clause-utf8
quoted_piece-requires-clause-utf8 c = behind_quote c.args.bytes.now c.in-len1-up.len_at_least c.if-first-eq39.true c.requires.utf8
