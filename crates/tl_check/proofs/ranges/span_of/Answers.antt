use Rattle.tl_check.proofs.RangeLemmas.{valid_version}
use Rattle.tl_check.proofs.ranges.span_of.Goals as goal

pub version_of-requires-clause-reached : goal.version_of-requires-clause-reached
version_of-requires-clause-reached c = valid_version c.args.times.now c.args.timeless c.args.over _ _ _ c.in-Valid.as_of c.in-Valid.is c.requires.right
