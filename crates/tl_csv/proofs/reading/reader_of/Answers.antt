use Rattle.std.proofs.Common.{refl}
use Rattle.tl_csv.proofs.reading.reader_of.Goals as goal

pub returns-clause-whole : goal.returns-clause-whole
returns-clause-whole c =
    let from = c.from_reader-reader.ensures in
    rw (c.in_ok-new.ensures.ok, from.state, from.source) refl
