use Rattle.tl_asking.proofs.WidthLemmas.{named_rows}
use Rattle.tl_asking.proofs.laws.rows_have_their_names.Goals as goal

pub returns : goal.returns
returns c = named_rows
