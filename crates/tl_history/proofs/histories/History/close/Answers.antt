-- A read gives what it gave of the journal.
use Rattle.std.proofs.Common.{◌∙◌, ap}
use Rattle.tl_history.proofs.histories.History.close.Goals as goal

pub returns-clause-reads : goal.returns-clause-reads
returns-clause-reads g c =
    rw (← c.self.view_is) (λ stands.
    let told = stands.reads_as in
    (told.0, ap g.D.Disk.reads c.into_disk.ensures ∙ told.1, told.2))
