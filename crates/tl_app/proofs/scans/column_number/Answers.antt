use Rattle.std.proofs.Common.{◌-◌, ◌%◌, rules, w64, SFits}
use Rattle.std.proofs.lemmas.Int.{to_z-of_z}
use Rattle.tl_types.specs.History.{database_of, rows_of}
use Rattle.tl_app.proofs.NumberLemmas.{first_tells}
use Rattle.tl_app.proofs.scans.column_number.Goals as goal

pub returns-clause-number : goal.returns-clause-number
returns-clause-number g c =
    let fits : SFits w64 c.first.result = search rules in
    let whole = to_z-of_z w64 c.first.result fits in
    λ kind. rw whole (first_tells kind (rows_of (database_of c.args.store.now) c.args.table) c.args.row (1024 - c.args.row % 1024) c.args.column c.first.result c.ints_from.result.now c.ints_from.ensures.cells c.first.ensures)
