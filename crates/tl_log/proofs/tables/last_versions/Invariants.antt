use Rattle.std.proofs.Common.{◌≡◌, ◌+◌, drop}
use Rattle.tl_log.specs.Listing.{lasts_from, last_versions}
use Rattle.tl_log.proofs.tables.last_versions.Given as goal

abbrev pub invariant-loop-before : goal.invariant-loop-before
invariant-loop-before g l =
    lasts_from (l.before + 1) (drop l.before l.store) l.lasts.items ≡ last_versions l.store
