use Rattle.std.proofs.Common.{◌+◌, ◌++◌, ◌∷◌, [], map, ap, sym, ◌∙◌, arith}
use Rattle.std.specs.List.{range_with_len}
use Rattle.std.proofs.lemmas.List.{append_assoc}
use Rattle.std.proofs.lemmas.List.FromFn.{map-range_with_len_more}
use Rattle.tl_types.specs.declared.events.Event.{Event}
use Rattle.tl_types.specs.Events.{activation}
use Rattle.tl_events.proofs.event_lists.push_opens.Goals as goal

pub loop-k-preserved : goal.loop-k-preserved
loop-k-preserved c =
    let begins : Event = activation (c.args.first + c.loop-k.k) in
    c.in_ok-push.ensures.items
    ∙ ap (λ event. c.loop-k.events.items ++ event ∷ []) c.new.ensures
    ∙ ap (λ events. events ++ begins ∷ []) c.loop-k.invariant
    ∙ append_assoc c.args.events.now.items (map activation (range_with_len c.args.first c.loop-k.k)) (begins ∷ [])
    ∙ ap (λ events. c.args.events.now.items ++ events)
    (sym (map-range_with_len_more activation c.args.first c.loop-k.k (c.args.first + c.loop-k.k) (omega arith)))
