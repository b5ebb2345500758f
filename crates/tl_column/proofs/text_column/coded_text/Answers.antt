use Rattle.std.proofs.Common.{◌∙◌}
use Rattle.tl_column.proofs.Known.{known_with}
use Rattle.tl_column.proofs.text_column.coded_text.Goals as goal

pub returns-in-Some-clause-texts : goal.returns-in-Some-clause-texts
returns-in-Some-clause-texts c =
    known_with c.args.dictionary c.args.text.now c.in-Some.code c.in-Some.ensures.valid (c.in-Some.ensures.text ∙ c.as_str.ensures.bytes)
