use Rattle.tl_follow.proofs.Advancing.{advanced_is, advanced_follows, advanced_end}
use Rattle.tl_follow.proofs.follower.Follower.advance.Goals as goal

pub returns-clause-follows : goal.returns-clause-follows
returns-clause-follows c = λ start packets h. advanced_follows c.step.result c.args.self.now c.step.new.self start packets c.step.ensures.step h

pub returns-clause-end : goal.returns-clause-end
returns-clause-end c = λ start packets h. advanced_end c.step.result c.args.self.now c.step.new.self start packets c.step.ensures.step h

pub returns-clause-moved : goal.returns-clause-moved
returns-clause-moved c = advanced_is c.step.result c.args.self.now c.step.new.self c.step.ensures.step
