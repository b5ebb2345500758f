use Rattle.std.proofs.Common.{subst, arith, pos, w64}
use Rattle.std.proofs.lemmas.Int.{to_z-of_z, ints}
use Rattle.tl_running.specs.Lasting.{Comes}
use Rattle.tl_agg.specs.Extremes.{ExtremeState}
use Rattle.tl_agg.proofs.extremes.Extremes.covers.Goals as goal

pub returns : goal.returns
returns c =
    let comes = rw (to_z-of_z w64 c.args.number c.ranges.number) at c.covers.ensures in
    λ yes end l. subst (λ (s : ExtremeState). Comes s.extreme s.extreme c.args.number (pos end)) c.self.view_is (comes yes (pos end) (omega (arith, ints)))
