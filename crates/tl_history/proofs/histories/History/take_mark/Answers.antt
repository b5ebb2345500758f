-- What a history keeps speaks of its commits and its break alone.
use Rattle.std.proofs.Common.{◌++◌, ◌∷◌, [], refl, sym, ap, ◌∙◌}
use Rattle.tl_index.specs.Snapshots.{mark_entry}
use Rattle.tl_history.specs.Plain as plain
use Rattle.tl_history.proofs.MarkLemmas.{keeps_with_mark, stands_with_mark}
use Rattle.tl_history.proofs.histories.History.take_mark.Goals as goal

pub invariant_of-self : goal.invariant_of-self
invariant_of-self g c =
    let old : plain.History g.row.D.Denot = record { entries = c.self.inside.snapshot; journal = c.self.inside.journal; first_count = c.self.inside.first_count; limits = c.self.inside.limits } in
    let new : plain.History g.row.D.Denot = record { entries = c.args.marked; journal = c.self.inside.journal; first_count = c.self.inside.first_count; limits = c.self.inside.limits } in
    keeps_with_mark g.D.Disk.faults c.self.inside.keys old new c.requires.0 c.requires.1
    (c.requires.2 ∙ ap (λ (h : plain.History g.row.D.Denot). h.entries ++ mark_entry c.requires.0 c.requires.1 ∷ []) (sym c.self.view_is)) refl refl refl c.self.invariant

pub returns-clause-stands : goal.returns-clause-stands
returns-clause-stands g c =
    let old : plain.History g.row.D.Denot = record { entries = c.self.inside.snapshot; journal = c.self.inside.journal; first_count = c.self.inside.first_count; limits = c.self.inside.limits } in
    let new : plain.History g.row.D.Denot = record { entries = c.args.marked; journal = c.self.inside.journal; first_count = c.self.inside.first_count; limits = c.self.inside.limits } in
    rw (← c.self.view_is) (stands_with_mark g.D.Disk.reads g.D.Disk.may_leave old new c.requires.0 c.requires.1
    (c.requires.2 ∙ ap (λ (h : plain.History g.row.D.Denot). h.entries ++ mark_entry c.requires.0 c.requires.1 ∷ []) (sym c.self.view_is)) refl)
