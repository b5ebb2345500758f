use Rattle.std.proofs.Common.{arith, ◌∙◌, subst}
use Rattle.tl_join.specs.ValidSides.{side_rows, AreEntries}
use Rattle.tl_join.proofs.ValidEventLemmas.{events_few, rows_within}
use Rattle.tl_join.proofs.valid_sides.side_entries.Goals as goal

pub entries_of-requires-clause-rows : goal.entries_of-requires-clause-rows
entries_of-requires-clause-rows g c =
    rows_within (side_rows c.args.side.now) c.args.events.now c.deref.result.now c.requires.events (c.deref.ensures.value ∙ c.in_ok-list.ensures.events)

pub entries_of-requires-clause-room : goal.entries_of-requires-clause-room
entries_of-requires-clause-room g c =
    let few = events_few (side_rows c.args.side.now) c.args.events.now c.deref.result.now c.requires.events (c.deref.ensures.value ∙ c.in_ok-list.ensures.events) in
    let rows = c.rows-rows.ensures.few in
    let number = c.rows-rows.ensures.number in
    omega (arith, few, rows, number, c.requires.room)

pub returns-clause-entries : goal.returns-clause-entries
returns-clause-entries g c =
    subst (λ events. AreEntries c.args.side.now c.args.plan.now c.entries_of.new.keys events c.in_ok-entries.entries.items) (c.deref.ensures.value ∙ c.in_ok-list.ensures.events) c.in_ok-entries.ensures.entries

pub returns-clause-count : goal.returns-clause-count
returns-clause-count g c =
    let few = events_few (side_rows c.args.side.now) c.args.events.now c.deref.result.now c.requires.events (c.deref.ensures.value ∙ c.in_ok-list.ensures.events) in
    let rows = c.rows-rows.ensures.few in
    let number = c.rows-rows.ensures.number in
    omega (arith, few, rows, number, c.in_ok-entries.ensures.count)
