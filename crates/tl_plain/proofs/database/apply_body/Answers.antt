use Rattle.std.proofs.Common.{◌<◌, ◌+◌, length, refl}
use Rattle.tl_types.specs.History.{table_after, with_floor}
use Rattle.tl_types.specs.Limits.{standard_limits}
use Rattle.tl_plain.proofs.Places.{placed_at, table_within, floor_within}
use Rattle.tl_plain.proofs.database.apply_body.Goals as goal

pub returns-in_ok-change-in-Change-clause-ok : goal.returns-in_ok-change-in-Change-clause-ok
returns-in_ok-change-in-Change-clause-ok c =
    let tables = c.args.tables.now.items in
    let change = c.in-Change.change in
    let table = c.index_mut-table.result.now in
    let fits = rw c.in-Change.is at c.requires.fit in
    let here : change.table < length tables = table_within standard_limits change tables change.table fits in
    rw c.in-Change.is (placed_at tables change.table c.table.result (table_after (c.args.now + 1) change) table c.change.new.self here c.table.ensures c.index_mut-table.ensures.value c.in_ok-change-in-Change.ensures.ok)

pub returns-in-Forget-clause-ok : goal.returns-in-Forget-clause-ok
returns-in-Forget-clause-ok c =
    let tables = c.args.tables.now.items in
    let table = c.index_mut-table-in-Forget.result.now in
    let fits = rw c.in-Forget.is at c.requires.fit in
    let here : c.in-Forget.number < length tables = floor_within c.args.now c.in-Forget.floor tables c.in-Forget.number fits in
    rw c.in-Forget.is (placed_at tables c.in-Forget.number c.in-Forget.number (with_floor c.in-Forget.floor) table c.set_floor.new.self here refl c.index_mut-table-in-Forget.ensures.value c.set_floor.ensures)
