use Rattle.std.proofs.Common.{w64}
use Rattle.std.proofs.lemmas.Int.{to_z-of_z}
use Rattle.tl_batch.proofs.SmallLemmas.{no_place}
use Rattle.tl_batch.proofs.small_keys.SmallKeys.remove.Goals as goal

pub returns-in_default : goal.returns-in_default
returns-in_default c = no_place c.args.self.now c.args.key c.args.id (λ n. (rw (to_z-of_z w64 c.args.key c.ranges.key) at c.in_default.ensures.none) c.args.self.now.two n) (λ n. (rw (to_z-of_z w64 c.args.key c.ranges.key) at c.in_default.ensures.no_set) c.args.self.now.sets n)
