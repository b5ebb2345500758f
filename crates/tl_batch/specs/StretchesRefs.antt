-- Stretches that are lent, of which one stands alone, few in a list and many in a tree.
use Rattle.std.specs.Prelude.{ℤ, List, [], ◌∷◌}
use Rattle.tl_batch.specs.Covers.{Beyond, before_all}
use Rattle.tl_batch.specs.declared.cover.StretchesRef.{StretchesRef}
use Rattle.tl_batch.specs.declared.cover.StretchesRef.TheVariants as lent

-- the stretches, each as its end and the moment where it begins
abbrev pub stretches_shown : StretchesRef → List (ℤ × ℤ)
stretches_shown (lent.One end start) = (end, start) ∷ []
stretches_shown (lent.Few stretches) = stretches.now
stretches_shown (lent.Many stretches) = stretches.now

-- stretches of a list have something between neighbours
abbrev pub AreApart : StretchesRef → Type 0
AreApart (lent.One end start) = Beyond before_all ((end, start) ∷ [])
AreApart (lent.Few stretches) = Beyond before_all stretches.now
AreApart (lent.Many stretches) = Unit {0}
