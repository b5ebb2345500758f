use Rattle.std.proofs.Common.{rules, w64, SFits, ◌∙◌, sym}
use Rattle.std.proofs.lemmas.Int.{to_z-of_z}
use Rattle.tl_watch.proofs.ReaderLemmas.{numbers_long, number_read, number_none}
use Rattle.tl_watch.proofs.row_readers.RowReader.number.Goals as goal

pub at-requires : goal.at-requires
at-requires g c = numbers_long c.args.self.now (record { table = c.self.inside.table; column = c.self.inside.column; by = c.self.inside.by }) c.args.id c.self.inside.numbers c.self.inside.keys c.in-Some.cells c.self.view_is c.self.invariant c.in-Some.is c.requires

pub returns-in-Some-clause-number : goal.returns-in-Some-clause-number
returns-in-Some-clause-number g c = λ row there.
    let fits : SFits w64 c.at.result = search rules in
    number_read c.args.self.now (record { table = c.self.inside.table; column = c.self.inside.column; by = c.self.inside.by }) c.args.id c.self.inside.numbers c.self.inside.keys c.in-Some.cells c.at.result c.self.view_is c.self.invariant c.in-Some.is c.at.ensures.value row there
    ∙ sym (to_z-of_z w64 c.at.result fits)

pub returns-in-None-clause-number : goal.returns-in-None-clause-number
returns-in-None-clause-number g c = number_none c.args.self.now (record { table = c.self.inside.table; column = c.self.inside.column; by = c.self.inside.by }) c.args.id c.self.inside.numbers c.self.inside.keys c.self.view_is c.self.invariant c.in-None.is
