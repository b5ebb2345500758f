use Rattle.std.proofs.Common.{subst, w64}
use Rattle.std.proofs.lemmas.Int.{to_z-of_z}
use Rattle.tl_running.specs.Lasting.{ExtremeOf, TellsExtreme}
use Rattle.tl_running.proofs.LastingLemmas.{value_told}
use Rattle.tl_running.proofs.extreme.Extreme.value.Goals as goal

pub returns-clause-tells : goal.returns-clause-tells
returns-clause-tells c =
    let greatest = rw (to_z-of_z w64 c.args.now c.ranges.now) at c.greatest-value.ensures.value in
    subst (λ (e : ExtremeOf). TellsExtreme e c.args.now c.field_of.result) c.self.view_is
    (value_told (record { kind = c.self.inside.kind; kept = c.self.inside.kept }) c.args.now c.greatest-value.result c.field_of.result greatest c.field_of.ensures)
