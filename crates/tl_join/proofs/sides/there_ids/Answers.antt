use Rattle.std.proofs.Common.{arith, length, ◌-◌, ap, sym, subst, All, ◌<◌}
use Rattle.tl_types.specs.declared.events.Event.{Event}
use Rattle.tl_types.proofs.EventLemmas.{place_grows, events_within}
use Rattle.tl_join.specs.Sides.{side_rows, last_in}
use Rattle.tl_join.proofs.sides.there_ids.Goals as goal

pub add_opened-requires-clause-order : goal.add_opened-requires-clause-order
add_opened-requires-clause-order g c =
    let rows = side_rows c.args.side.now in
    let last = last_in c.args.side.now in
    let some = c.args.piece.some in
    let inside = c.requires.versions in
    let first_is = c.end_of-first.ensures.history rows last c.requires.side.ends (omega (arith, some, inside)) in
    let last_is = c.end_of-last.ensures.history rows last c.requires.side.ends (omega (arith, inside)) in
    let grows = place_grows rows c.args.piece.from (c.args.piece.to - 1) (omega (arith, some)) in
    omega (arith, first_is, last_is, grows)

pub add_opened-requires-clause-inside : goal.add_opened-requires-clause-inside
add_opened-requires-clause-inside g c =
    let rows = side_rows c.args.side.now in
    let last = last_in c.args.side.now in
    let inside = c.requires.versions in
    let last_is = c.end_of-last.ensures.history rows last c.requires.side.ends (omega (arith, inside)) in
    let grows = place_grows rows (c.args.piece.to - 1) last (omega (arith, inside)) in
    let long = ap length c.requires.side.events in
    omega (arith, last_is, grows, long)

pub add_opened-requires-clause-rows : goal.add_opened-requires-clause-rows
add_opened-requires-clause-rows g c =
    let rows = side_rows c.args.side.now in
    let last = last_in c.args.side.now in
    let all = events_within rows last in
    let of_events = subst (λ events. All (λ (e : Event). e.row < length rows) events) (sym c.requires.side.events) all in
    subst (λ n. All (λ (e : Event). e.row < n) c.args.side.now.events.now) (sym c.requires.side.keep) of_events
