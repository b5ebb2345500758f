use Rattle.tl_store.proofs.MaskLemmas.{no_number, no_other_number, no_text, no_other_text}
use Rattle.tl_store.proofs.ready.word_of.Goals as goal

pub returns-in-Code : goal.returns-in-Code
returns-in-Code c = no_number c.args.column.now c.args.asked c.in-Ints.numbers c.in-Code.field-0 c.in-Code.field-1 c.args.i c.in-Ints.is c.in-Code.is

pub returns-in-Other : goal.returns-in-Other
returns-in-Other c = no_other_number c.args.column.now c.args.asked c.in-Ints.numbers c.args.i c.in-Ints.is c.in-Other.is

pub returns-in-Number-asked : goal.returns-in-Number-asked
returns-in-Number-asked c = no_text c.args.column.now c.args.asked c.in-Texts.texts c.in-Number-asked.field-0 c.in-Number-asked.field-1 c.args.i c.in-Texts.is c.in-Number-asked.is

pub returns-in-Other-asked : goal.returns-in-Other-asked
returns-in-Other-asked c = no_other_text c.args.column.now c.args.asked c.in-Texts.texts c.args.i c.in-Texts.is c.in-Other-asked.is
