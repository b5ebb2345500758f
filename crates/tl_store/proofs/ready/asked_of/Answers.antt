use Rattle.tl_store.proofs.MaskLemmas.{numbers_asked, texts_asked}
use Rattle.tl_store.proofs.ready.asked_of.Goals as goal

pub returns-in-Ints : goal.returns-in-Ints
returns-in-Ints c = numbers_asked c.args.column.now c.number_asked.result c.in-Ints.field-0 c.args.test.now c.in-Ints.is c.number_asked.ensures

pub returns-in-Texts : goal.returns-in-Texts
returns-in-Texts c = texts_asked c.args.column.now c.text_asked.result c.in-Texts.texts c.args.test.now c.in-Texts.is c.text_asked.ensures
