use Rattle.std.proofs.Common.{◌∙◌, ap, sym, subst}
use Rattle.tl_types.specs.Entries.{commits_of}
use Rattle.tl_follow.specs.Places.{HasPlace, IsStuckAt, place_fault}
use Rattle.tl_follow.proofs.Advancing.{follows_held}
use Rattle.tl_follow.proofs.PlaceLemmas.{has_place, stuck_place}
use Rattle.tl_follow.proofs.places.InputFollower.follow.Goals as goal

pub returns-in-Ok-clause-ok : goal.returns-in-Ok-clause-ok
returns-in-Ok-clause-ok c = λ limits start packets h.
    follows_held limits start packets c.args.self.follower c.in-Ok.followed.snapshot c.in-Ok.followed.commits h.entries_same h.limits_same
    c.in-Ok.ensures.entries c.in-Ok.ensures.fit (c.in-Ok.ensures.whole start packets h.follows)

pub place_fault-requires : goal.place_fault-requires
place_fault-requires c =
    let r = c.requires in
    subst (λ places. HasPlace places c.in-Err.fault) (sym c.as_slice.ensures)
    (has_place c.in-Err.fault r.0 r.1 r.2 c.args.self r.3 (c.in-Err.ensures.halted r.1 r.2 r.3.follows))

pub returns-clause-stuck : goal.returns-clause-stuck
returns-clause-stuck c = λ limits start packets h.
    subst (IsStuckAt limits (commits_of start) packets) (sym (c.place_fault.ensures ∙ ap (λ places. place_fault places c.in-Err.fault) c.as_slice.ensures))
    (stuck_place c.in-Err.fault limits start packets c.args.self h (c.in-Err.ensures.halted start packets h.follows))
