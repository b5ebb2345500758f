use Rattle.std.proofs.Common.{arith, refl}
use Rattle.std.proofs.lemmas.List.{drop_all}
use Rattle.tl_csv.proofs.samples.fill_line.Goals as goal

pub returns-clause-text : goal.returns-clause-text
returns-clause-text c =
    rw (c.put_number.ensures.text, c.put_number-group_start.ensures.text, c.put_number-value_start.ensures.text, drop_all 33 c.args.line.now (omega arith)) refl
