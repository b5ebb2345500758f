use Rattle.tl_watch.proofs.ReadyLemmas.{all_made, all_stated, all_forgot, all_changed}
use Rattle.tl_watch.proofs.watch.follow_commit.Goals as goal

pub returns-in-Create-clause-ok : goal.returns-in-Create-clause-ok
returns-in-Create-clause-ok g c = all_made c.args.plans.now.items c.args.before.now c.args.commit.now c.in-Create.field-0 c.in-Create.is c.requires.fit c.requires.fits c.requires.stands

pub returns-in_ok-follow_all-in-Change-clause-ok : goal.returns-in_ok-follow_all-in-Change-clause-ok
returns-in_ok-follow_all-in-Change-clause-ok g c = all_changed c.follow_all.new.plans.items c.args.before.now c.args.commit.now c.in-Change.change c.in-Change.is c.in_ok-follow_all-in-Change.ensures.ok

pub returns-in-Moment-clause-ok : goal.returns-in-Moment-clause-ok
returns-in-Moment-clause-ok g c = all_stated c.args.plans.now.items c.args.before.now c.args.commit.now c.in-Moment.moment c.in-Moment.is c.requires.fit c.requires.fits c.requires.stands

pub returns-in-Forget-clause-ok : goal.returns-in-Forget-clause-ok
returns-in-Forget-clause-ok g c = all_forgot c.args.plans.now.items c.args.before.now c.args.commit.now c.in-Forget.table c.in-Forget.floor c.in-Forget.is c.requires.fit c.requires.fits c.requires.stands
