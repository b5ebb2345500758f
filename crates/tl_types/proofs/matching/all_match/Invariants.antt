use Rattle.std.proofs.Common.{◌≡◌, drop}
use Rattle.std.specs.List.{list_all}
use Rattle.tl_types.specs.History.{matches}
use Rattle.tl_types.proofs.matching.all_match.Given as goal

abbrev pub invariant-loop-opened : goal.invariant-loop-opened
invariant-loop-opened l =
    list_all (matches l.schema) (drop l.opened-index l.opens) ≡ list_all (matches l.schema) l.opens
