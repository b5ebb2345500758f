use Rattle.tl_range.proofs.CountLemmas.{inside_count}
use Rattle.tl_range.proofs.laws.marks_inside_count.Goals as goal

pub returns : goal.returns
returns c = inside_count
