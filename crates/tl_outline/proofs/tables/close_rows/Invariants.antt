use Rattle.std.proofs.Common.{◌≡◌, drop}
use Rattle.tl_outline.specs.Outlines.{after_closes}
use Rattle.tl_outline.proofs.tables.close_rows.Given as goal

abbrev pub invariant-loop-id : goal.invariant-loop-id
invariant-loop-id l =
    after_closes l.current.items (drop l.id-index l.closes) ≡ after_closes l.initial.current.items l.closes
