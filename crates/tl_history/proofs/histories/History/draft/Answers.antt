-- The disk stands for what it stood for.
use Rattle.std.proofs.Common.{refl}
use Rattle.tl_types.specs.Entries.{commits_of}
use Rattle.tl_history.specs.Plain as plain
use Rattle.tl_history.proofs.StandingLemmas.{stands_still}
use Rattle.tl_history.proofs.histories.History.draft.Goals as goal

pub returns-in_default-clause-stands : goal.returns-in_default-clause-stands
returns-in_default-clause-stands g c =
    let j = c.draft_of.ensures.journal in
    let old : plain.History g.row.D.Denot = record { entries = c.self.inside.snapshot; journal = c.self.inside.journal; first_count = c.self.inside.first_count; limits = c.self.inside.limits } in
    let new : plain.History g.row.D.Denot = record { entries = c.self.inside.snapshot; journal = c.draft_of.new.journal; first_count = c.self.inside.first_count; limits = c.self.inside.limits } in
    rw (← c.self.view_is) (λ stands. stands_still g.D.Disk.reads g.D.Disk.may_leave old new refl (j.stands (commits_of c.self.inside.snapshot)) j.untouched stands)

pub returns-clause-stands : goal.returns-clause-stands
returns-clause-stands g c =
    let j = c.draft_of.ensures.journal in
    let old : plain.History g.row.D.Denot = record { entries = c.self.inside.snapshot; journal = c.self.inside.journal; first_count = c.self.inside.first_count; limits = c.self.inside.limits } in
    let new : plain.History g.row.D.Denot = record { entries = c.self.inside.snapshot; journal = c.draft_of.new.journal; first_count = c.self.inside.first_count; limits = c.self.inside.limits } in
    rw (← c.self.view_is) (λ stands. stands_still g.D.Disk.reads g.D.Disk.may_leave old new refl (j.stands (commits_of c.self.inside.snapshot)) j.untouched stands)
