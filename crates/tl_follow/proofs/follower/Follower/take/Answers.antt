use Rattle.tl_follow.proofs.Holding.{taken_follows, taken_limits, taken_entries}
use Rattle.tl_follow.proofs.follower.Follower.take.Goals as goal

pub returns-clause-follows : goal.returns-clause-follows
returns-clause-follows c = taken_follows c.put.result c.args.self.now c.put.new.self c.args.packet c.put.ensures.held

pub returns-clause-limits : goal.returns-clause-limits
returns-clause-limits c = taken_limits c.put.result c.args.self.now c.put.new.self c.args.packet c.put.ensures.held c.put.ensures.err

pub returns-clause-entries : goal.returns-clause-entries
returns-clause-entries c = taken_entries c.put.result c.args.self.now c.put.new.self c.args.packet c.put.ensures.held c.put.ensures.err
