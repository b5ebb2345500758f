use Rattle.std.proofs.Common.{rules, w64, SFits}
use Rattle.std.proofs.lemmas.Int.{to_z-of_z}
use Rattle.tl_watch.proofs.ReaderLemmas.{keys_long, key_read}
use Rattle.tl_watch.proofs.row_readers.RowReader.key.Goals as goal

pub at-requires : goal.at-requires
at-requires g c = keys_long c.args.self.now (record { table = c.self.inside.table; column = c.self.inside.column; by = c.self.inside.by }) c.args.id c.self.inside.numbers c.self.inside.keys c.in-Some.cells c.self.view_is c.self.invariant c.in-Some.is c.requires.row

pub returns-in-Some-clause-key : goal.returns-in-Some-clause-key
returns-in-Some-clause-key g c =
    let fits : SFits w64 c.at.result = search rules in
    let whole = to_z-of_z w64 c.at.result fits in
    rw whole (key_read c.args.self.now (record { table = c.self.inside.table; column = c.self.inside.column; by = c.self.inside.by }) c.args.id c.args.by c.self.inside.numbers c.self.inside.keys c.in-Some.cells c.at.result c.self.view_is c.requires.by c.self.invariant c.in-Some.is c.requires.row c.at.ensures.value)
