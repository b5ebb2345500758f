use Rattle.std.proofs.Common.{◌∙◌}
use Rattle.tl_batch.proofs.UntimedLemmas.{found_open}
use Rattle.tl_batch.proofs.untimed.has_open_row.Goals as goal

pub returns : goal.returns
returns c = λ place rows stand. c.is_some.ensures ∙ found_open c.args.index.now place c.args.key.now rows c.find.result stand c.find.ensures.some c.find.ensures.none
