use Rattle.std.proofs.Common.{pos}
use Rattle.tl_batch.specs.Covers.{before_all}
use Rattle.tl_batch.proofs.FewPeriodsLemmas.{stretch_full}
use Rattle.tl_batch.proofs.period_set.many_of.Goals as goal

pub add_stretch-requires : goal.add_stretch-requires
add_stretch-requires c = stretch_full c.loop-stretch.stretch-index before_all c.args.stretches.now (pos 0, pos 0) c.requires c.loop-stretch-test.true
