use Rattle.std.proofs.Common.{◌∙◌, refl, sym}
use Rattle.tl_follow.proofs.PlaceLemmas.{takes_held, takes_known}
use Rattle.tl_follow.proofs.places.InputFollower.take.Goals as goal

pub returns-in-Known : goal.returns-in-Known
returns-in-Known c =
    takes_known c.args.packet c.args.at c.args.self.now (record { follower = c.take.new.self; places = c.args.self.now.places })
    (sym c.in_ok-take.ensures.taken ∙ c.in-Known.is) refl c.take.ensures.limits c.take.ensures.entries c.in_ok-take.ensures.follows

pub returns-in_ok-push-in-Held : goal.returns-in_ok-push-in-Held
returns-in_ok-push-in-Held c =
    takes_held c.args.packet c.args.at c.args.packet.version c.args.self.now (record { follower = c.take.new.self; places = c.push.new.self })
    (record { version = c.args.packet.version; at = c.args.at }) refl refl c.in_ok-push-in-Held.ensures.ok c.take.ensures.limits c.take.ensures.entries c.in_ok-take.ensures.follows
