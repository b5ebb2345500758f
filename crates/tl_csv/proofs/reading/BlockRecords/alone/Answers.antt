use Rattle.std.proofs.Common.{refl, ◌∙◌}
use Rattle.tl_csv.specs.BlockRecords.{block_left}
use Rattle.tl_csv.proofs.ReadingLemmas.{no_separator}
use Rattle.tl_csv.proofs.reading.BlockRecords.alone.Goals as goal

pub returns-clause-whole : goal.returns-clause-whole
unfolding block_left
returns-clause-whole c =
    c.in_ok-reader_of.ensures.whole ∙ rw (c.of_one-bytes.ensures, c.past_byte_order_marks.ensures, no_separator c.args.block.now) refl
