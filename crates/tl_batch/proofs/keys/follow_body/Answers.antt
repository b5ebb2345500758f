use Rattle.tl_types.specs.History.{database_of}
use Rattle.tl_batch.proofs.FollowLemmas.{stands_more, stands_stated, stands_floored, made_more}
use Rattle.tl_batch.proofs.keys.follow_body.Goals as goal

pub returns-in_ok-push-in-Create-clause-ok : goal.returns-in_ok-push-in-Create-clause-ok
returns-in_ok-push-in-Create-clause-ok c = stands_more c.args.tables.now.items c.push.new.self.items (database_of c.args.before.now) _ c.args.body.now c.requires.stands c.in_ok-push-in-Create.ensures.items c.in-Create.is

pub returns-in_ok-push-in-Create-clause-made : goal.returns-in_ok-push-in-Create-clause-made
returns-in_ok-push-in-Create-clause-made c = made_more c.args.tables.now.items c.push.new.self.items c.in_ok-push-in-Create.ensures.items

pub returns-in-Moment-clause-ok : goal.returns-in-Moment-clause-ok
returns-in-Moment-clause-ok c = stands_stated c.args.tables.now.items (database_of c.args.before.now) _ c.args.body.now c.requires.stands c.in-Moment.is

pub returns-in-Forget-clause-ok : goal.returns-in-Forget-clause-ok
returns-in-Forget-clause-ok c = stands_floored c.args.tables.now.items (database_of c.args.before.now) _ _ c.args.body.now c.requires.stands c.in-Forget.is
