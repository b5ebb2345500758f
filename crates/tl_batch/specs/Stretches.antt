-- The stretches of a set of periods, of which few stand in a list and many in a tree.
use Rattle.std.specs.Prelude.{ℤ, List}
use Rattle.tl_batch.specs.declared.period_set.Stretches.{Stretches}
use Rattle.tl_batch.specs.declared.period_set.Stretches.TheVariants as kept

-- the stretches, each as its end and the moment where it begins
abbrev pub stretches_in : Stretches → List (ℤ × ℤ)
stretches_in (kept.Few stretches) = stretches
stretches_in (kept.Many stretches) = stretches
