use Rattle.tl_types.specs.declared.commits.Entry.TheVariants as entry
use Rattle.tl_core.proofs.KeptLemmas.{mark_may_follow, pass_is_there, ended_is_legal, mark_is}
use Rattle.tl_core.proofs.worlds.World.mark.Goals as goal

pub append-requires-clause-may : goal.append-requires-clause-may
append-requires-clause-may c =
    mark_may_follow c.args.self.now c.args.pass c.version_at-at.result c.in-Some.build c.requires c.in-Some.ensures.value c.version_at-at.ensures c.in-Some.ensures.legal.1

pub put_pass-requires-clause-pass : goal.put_pass-requires-clause-pass
put_pass-requires-clause-pass c =
    pass_is_there c.args.self.now c.append.new.self c.args.pass c.in-Some.build (entry.Mark c.in-Some.build.table c.version_at-at.result) c.in-Some.ensures.value c.in_ok-append.ensures.ok

pub put_pass-requires-clause-legal : goal.put_pass-requires-clause-legal
put_pass-requires-clause-legal c =
    ended_is_legal c.args.self.now c.append.new.self (entry.Mark c.in-Some.build.table c.version_at-at.result) c.seen_by-seen.result c.seen_by-seen.ensures.within c.in_ok-append.ensures.ok

pub returns-clause-ok : goal.returns-clause-ok
returns-clause-ok c =
    mark_is c.args.self.now c.append.new.self c.put_pass.new.self c.args.pass c.seen_by-seen.result c.version_at-at.result c.in-Some.build c.in-Some.ensures.value c.seen_by-seen.ensures.value c.version_at-at.ensures c.in_ok-append.ensures.ok c.put_pass.ensures
