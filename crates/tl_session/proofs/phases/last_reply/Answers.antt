use Rattle.std.proofs.Common.{rules, refl}
use Rattle.tl_session.proofs.HandLemmas.{taken_at}
use Rattle.tl_session.proofs.phases.last_reply.Goals as goal

pub returns : goal.returns
returns g c = taken_at c.args.place c.args.sessions.now _ c.index-sessions-place.result c.take_reply.new.session c.take_reply.result (search rules) c.take_reply.ensures refl
