use Rattle.std.proofs.Common.{refl}
use Rattle.tl_session.proofs.TendingLemmas.{tended_where}
use Rattle.tl_session.proofs.statements.tend.Goals as goal

pub returns-clause-tended : goal.returns-clause-tended
returns-clause-tended g c =
    tended_where c.was_tended.result c.tend.result c.args.table c.in-Some.table c.args.k c.args.access.now.seen c.args.access.now.seen c.tend.new.self.seen c.was_tended.ensures.tended c.in-Some.is c.tend.ensures.says refl
