use Rattle.tl_program.proofs.CommandLemmas.{one_alone, three_alone}
use Rattle.tl_program.proofs.commands.options_of.Goals as goal

pub returns-in-len1 : goal.returns-in-len1
returns-in-len1 c = one_alone c.args.words.now c.in-len1.len_at_least c.in-len1.len_below

pub returns-in-len3 : goal.returns-in-len3
returns-in-len3 c = three_alone c.args.words.now c.in-len3.len_at_least c.in-len3.len_below
