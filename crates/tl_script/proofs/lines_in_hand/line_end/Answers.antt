use Rattle.std.proofs.Common.{◌∙◌, sym}
use Rattle.tl_script.proofs.SpotLemmas.{line_end_at, no_line_end_at}
use Rattle.tl_script.proofs.lines_in_hand.line_end.Goals as goal

pub returns-in-Some : goal.returns-in-Some
returns-in-Some c = line_end_at c.args.bytes.now c.split_at.result.1.now c.args.searched c.in-Some.at c.requires.within c.requires.none c.split_at.ensures.back (sym c.position_of.ensures ∙ c.in-Some.is)

pub returns-in-None : goal.returns-in-None
returns-in-None c = no_line_end_at c.args.bytes.now c.split_at.result.1.now c.args.searched c.requires.none c.split_at.ensures.back (sym c.position_of.ensures ∙ c.in-None.is)
