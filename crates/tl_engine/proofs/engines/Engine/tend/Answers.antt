-- What was read is what the pass then had seen, and its checkpoint is that of it.
use Rattle.tl_engine.proofs.TendLemmas.{table_known, checkpoint_seen, both_halves}
use Rattle.tl_engine.proofs.engines.Engine.tend.Goals as goal

pub due-is_due-requires : goal.due-is_due-requires
due-is_due-requires g c = table_known c.args.pass.now.seen c.in-Ok.snapshot c.args.table (rw c.in-Ok.ensures.value c.read.ensures.later) c.requires.known

pub build_checkpoint-requires : goal.build_checkpoint-requires
build_checkpoint-requires g c = table_known c.args.pass.now.seen c.in-Ok.snapshot c.args.table (rw c.in-Ok.ensures.value c.read.ensures.later) c.requires.known

pub publish_mark-requires-clause-checkpoint : goal.publish_mark-requires-clause-checkpoint
publish_mark-requires-clause-checkpoint g c = (checkpoint_seen c.args.pass.now.seen c.read.new.pass.seen c.in-Ok.snapshot c.args.table c.in-Ok-build_checkpoint.checkpoint c.read.ensures.later c.in-Ok.ensures.value c.requires.known c.in-Ok-build_checkpoint.ensures).is

pub returns-clause-says : goal.returns-clause-says
returns-clause-says g c =
    both_halves c.args.table c.args.k c.args.pass.now.seen c.read.new.pass.seen c.in-Ok.snapshot c.publish_mark.new.pass.seen c.len.result c.in-Ok-build_checkpoint.checkpoint c.due-is_due.result c.publish_mark.result
    c.read.ensures.later c.in-Ok.ensures.value c.due-is_due.ensures c.if-not-is_due.false c.len.ensures c.requires.known c.in-Ok-build_checkpoint.ensures c.publish_mark.ensures.says
