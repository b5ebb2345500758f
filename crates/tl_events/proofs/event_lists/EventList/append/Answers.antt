use Rattle.std.proofs.Common.{map, length, ap, ◌∙◌, arith}
use Rattle.std.proofs.lemmas.List.{length-append, length-map}
use Rattle.std.proofs.lemmas.List.FromFn.{length-map-range_with_len}
use Rattle.std.specs.List.{range_with_len}
use Rattle.tl_types.specs.Events.{invalidation, activation}
use Rattle.tl_events.proofs.event_lists.EventList.append.Goals as goal

pub invariant_of-result : goal.invariant_of-result
invariant_of-result c =
    let all = ap length c.in_ok-append.ensures ∙ length-append c.self.inside.events c.deref.result.now in
    let new = ap length c.deref.ensures.value ∙ ap length c.in_ok-events.ensures
    ∙ length-append (map invalidation c.args.closes.now) (map activation (range_with_len c.args.first c.args.opens)) in
    let closes = length-map c.args.closes.now invalidation in
    let opens = length-map-range_with_len activation c.args.first c.args.opens in
    let old = ap length c.self.view_is in
    let few = c.requires.few in
    omega arith
