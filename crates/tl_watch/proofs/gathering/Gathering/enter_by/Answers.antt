use Rattle.std.proofs.Common.{w64, sym, ap, subst}
use Rattle.std.proofs.lemmas.Int.{to_z-of_z}
use Rattle.tl_store.specs.Reading.{cell_shown}
use Rattle.tl_watch.specs.Gathering.{GatheringOf, CanEnterAt, EntersAt}
use Rattle.tl_watch.proofs.NumberedLemmas.{place_room, entered}
use Rattle.tl_watch.proofs.gathering.Gathering.enter_by.Goals as goal

pub enter_at-requires : goal.enter_at-requires
enter_at-requires c = subst (λ (g : GatheringOf). CanEnterAt g.state.groups c.in_ok-n.n) (sym c.self.view_is) (place_room c.args.self.now c.number.new.self (cell_shown c.args.value) c.in_ok-n.n c.in_ok-n.ensures c.requires.room)

pub returns : goal.returns
returns c =
    let whole = to_z-of_z w64 c.args.number c.ranges.number in
    entered c.args.self.now c.number.new.self (record { kind = c.self.inside.kind; state = record { all = c.self.inside.all; groups = c.enter_at.new.groups.items }; keys = c.self.inside.keys }) (cell_shown c.args.value) c.in_ok-n.n c.args.number c.in_ok-n.ensures
    (subst (λ (g : GatheringOf). EntersAt g.state.groups c.enter_at.new.groups.items c.in_ok-n.n c.args.number) c.self.view_is (subst (λ k. EntersAt c.self.inside.by.items c.enter_at.new.groups.items c.in_ok-n.n k) whole c.in_ok-enter_at.ensures))
    (ap (λ (g : GatheringOf). g.keys) c.self.view_is) (ap (λ (g : GatheringOf). g.kind) c.self.view_is)
