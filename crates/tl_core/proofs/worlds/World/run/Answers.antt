use Rattle.std.proofs.Common.{sym, subst}
use Rattle.tl_core.specs.World.{World, IsLegal}
use Rattle.tl_core.specs.Law.{GoesOn}
use Rattle.tl_core.proofs.LawLemmas.{goes_on}
use Rattle.tl_core.proofs.worlds.World.run.Goals as goal

pub returns-clause-law : goal.returns-clause-law
returns-clause-law c =
    let legal = subst (λ (w : World). IsLegal w) c.self.view_is c.self.invariant.legal in
    subst (λ (w : World). GoesOn c.args.self w) (sym c.loop-step.invariant) (goes_on c.args.self c.loop-step.yielded legal)
