use Rattle.std.proofs.Common.{arith, ◌∙◌, length}
use Rattle.tl_join.specs.Sides.{side_rows, last_in}
use Rattle.tl_join.proofs.SideLemmas.{there_below, there_few, rows_few, side_steps}
use Rattle.tl_join.proofs.sides.side_entries.Goals as goal

pub entries_of-requires-clause-rows : goal.entries_of-requires-clause-rows
entries_of-requires-clause-rows g c =
    there_below (side_rows c.args.side.now) (last_in c.args.side.now) c.args.piece.from c.args.piece.to c.args.side.now.start.now c.args.side.now.keep.now c.deref.result.now c.requires.side.start c.requires.side.keep (c.deref.ensures.value ∙ c.in_ok-ids.ensures.ids)

pub entries_of-requires-clause-room : goal.entries_of-requires-clause-room
entries_of-requires-clause-room g c =
    let few = there_few (side_rows c.args.side.now) (last_in c.args.side.now) c.args.piece.from c.args.piece.to c.args.side.now.start.now c.args.side.now.keep.now c.deref.result.now c.requires.versions (c.deref.ensures.value ∙ c.in_ok-ids.ensures.ids) in
    let ids = rows_few (side_rows c.args.side.now) c.args.piece.from c.args.piece.to (length c.deref.result.now) c.args.side.now.start.now c.requires.side.start few in
    let rows = c.rows-rows.ensures.few in
    let number = c.rows-rows.ensures.number in
    omega (arith, ids, rows, number, c.requires.room)

pub returns-clause-count : goal.returns-clause-count
returns-clause-count g c =
    let few = there_few (side_rows c.args.side.now) (last_in c.args.side.now) c.args.piece.from c.args.piece.to c.args.side.now.start.now c.args.side.now.keep.now c.deref.result.now c.requires.versions (c.deref.ensures.value ∙ c.in_ok-ids.ensures.ids) in
    let ids = rows_few (side_rows c.args.side.now) c.args.piece.from c.args.piece.to (length c.deref.result.now) c.args.side.now.start.now c.requires.side.start few in
    let rows = c.rows-rows.ensures.few in
    let number = c.rows-rows.ensures.number in
    omega (arith, ids, rows, number, c.in_ok-entries.ensures.count)

pub returns-clause-steps : goal.returns-clause-steps
returns-clause-steps g c =
    let few = there_few (side_rows c.args.side.now) (last_in c.args.side.now) c.args.piece.from c.args.piece.to c.args.side.now.start.now c.args.side.now.keep.now c.deref.result.now c.requires.versions (c.deref.ensures.value ∙ c.in_ok-ids.ensures.ids) in
    side_steps _ _ _ _ _ _ _ (length c.deref.result.now) c.in_ok-ids.ensures.steps c.in_ok-entries.ensures.steps few

pub returns-in_err-entries-clause-steps : goal.returns-in_err-entries-clause-steps
returns-in_err-entries-clause-steps g c =
    let few = there_few (side_rows c.args.side.now) (last_in c.args.side.now) c.args.piece.from c.args.piece.to c.args.side.now.start.now c.args.side.now.keep.now c.deref.result.now c.requires.versions (c.deref.ensures.value ∙ c.in_ok-ids.ensures.ids) in
    side_steps _ _ _ _ _ _ _ (length c.deref.result.now) c.in_ok-ids.ensures.steps c.in_err-entries.ensures.steps few
