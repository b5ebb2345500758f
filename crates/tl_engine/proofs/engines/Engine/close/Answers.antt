-- The snapshot is the history's, and its disk stands for it.
use Rattle.std.proofs.Common.{sym, subst}
use Rattle.tl_history.specs.Standing.{ImageStandsForEntries}
use Rattle.tl_engine.proofs.engines.Engine.close.Goals as goal

pub returns-clause-leaves : goal.returns-clause-leaves
returns-clause-leaves g c =
    λ told image left.
    subst (λ es. ImageStandsForEntries es image) (sym c.close-closed.ensures.snapshot) (c.close-closed.ensures.leaves (c.history.invariant.3 told) image left)

pub returns-clause-reads : goal.returns-clause-reads
returns-clause-reads g c =
    λ told.
    let read = c.close-closed.ensures.reads (c.history.invariant.3 told) in
    (read.0, read.1, subst (λ es. ImageStandsForEntries es read.0) (sym c.close-closed.ensures.snapshot) read.2)
