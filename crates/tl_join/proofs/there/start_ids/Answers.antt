use Rattle.std.proofs.Common.{arith, ap, ◌∙◌, ◌≡◌, ◌++◌, ◌∷◌, [], ◌+◌, length, length-append}
use Rattle.tl_bits.specs.Sets.{members}
use Rattle.tl_join.proofs.ThereLemmas.{next_member, no_member, steps_found}
use Rattle.tl_join.proofs.there.start_ids.Goals as goal

pub members-preserved : goal.members-preserved
members-preserved g c =
    let kept : c.push.new.self.items ≡ c.members.ids.items ++ c.in-Some.row ∷ [] = c.in_ok-push.ensures.items in
    let inside = c.in-Some.ensures.found.inside in
    let len : length c.push.new.self.items ≡ length c.members.ids.items + 1 = ap length kept ∙ length-append c.members.ids.items (c.in-Some.row ∷ []) in
    (omega (arith, inside), rw kept (next_member c.args.start.now c.members.at c.in-Some.row c.members.ids.items (members c.args.start.now) c.members.invariant.1 c.in-Some.ensures.found), steps_found _ _ _ _ _ _ _ c.members.invariant.2 c.in-Some.ensures.steps_found len)

pub returns-clause-ids : goal.returns-clause-ids
returns-clause-ids g c = no_member c.args.start.now c.members.at c.members.ids.items (members c.args.start.now) c.members.invariant.1 c.in_default.ensures.none
