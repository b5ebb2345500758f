use Rattle.std.proofs.Common.{arith}
use Rattle.tl_types.specs.History.{database_of}
use Rattle.tl_batch.specs.ClosedRows.{has_closed}
use Rattle.tl_batch.proofs.FollowLemmas.{fitting, fitting-within, fitting-closes, fitting-place, fitting-keyed, fitting-below, fitting-after, index_kept, on_err}
use Rattle.tl_batch.proofs.keys.follow_made.Goals as goal

pub closed_keys-requires-clause-rows : goal.closed_keys-requires-clause-rows
closed_keys-requires-clause-rows c = fitting-closes (database_of c.args.before.now) c.args.change.now (fitting (database_of c.args.before.now) c.args.change.now c.requires.fit)

pub closed_keys-requires-clause-there : goal.closed_keys-requires-clause-there
closed_keys-requires-clause-there c = fitting-within (database_of c.args.before.now) c.args.change.now (fitting (database_of c.args.before.now) c.args.change.now c.requires.fit)

pub rows-first-requires : goal.rows-first-requires
rows-first-requires c =
    let h = fitting-within (database_of c.args.before.now) c.args.change.now (fitting (database_of c.args.before.now) c.args.change.now c.requires.fit) in
    let e = c.table-number.ensures in
    omega arith

pub change_index-requires-clause-keyed : goal.change_index-requires-clause-keyed
change_index-requires-clause-keyed c = fitting-keyed (database_of c.args.before.now) c.args.change.now (fitting (database_of c.args.before.now) c.args.change.now c.requires.fit) c.schema.result.now c.key-place.result (rw c.table-number.ensures at c.schema.ensures.value) c.key-place.ensures.value c.key-place.ensures.among

pub change_index-requires-clause-below : goal.change_index-requires-clause-below
change_index-requires-clause-below c = fitting-below (database_of c.args.before.now) c.args.change.now (fitting (database_of c.args.before.now) c.args.change.now c.requires.fit) c.args.index.now c.rows-first.result c.requires.is (rw c.table-number.ensures at c.rows-first.ensures.number)

pub returns-in_err-change_index-clause-err : goal.returns-in_err-change_index-clause-err
returns-in_err-change_index-clause-err c = on_err _ c.from_residual-in_err-change_index.result (index_kept c.args.index.now c.change_index.new.index _ c.requires.is c.in_err-change_index.ensures.err)

pub returns-clause-ok : goal.returns-clause-ok
returns-clause-ok c =
    let f = fitting (database_of c.args.before.now) c.args.change.now c.requires.fit in
    fitting-after (database_of c.args.before.now) c.args.change.now f c.args.index.now (has_closed c.in_ok-closed.closed c.args.change.now.closes) c.change_index.new.index c.key-place.result c.rows-first.result c.requires.version c.requires.is
    (rw c.table-number.ensures at c.rows-first.ensures.number) (fitting-place (database_of c.args.before.now) c.args.change.now f c.schema.result.now c.key-place.result (rw c.table-number.ensures at c.schema.ensures.value) c.key-place.ensures.value) c.in_ok-closed.ensures.keys c.in_ok-change_index.ensures.ok
