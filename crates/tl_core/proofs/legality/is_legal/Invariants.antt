use Rattle.std.proofs.Common.{◌≡◌, take}
use Rattle.tl_types.specs.Entries.{commits_of, has_break}
use Rattle.tl_core.proofs.PrefixLemmas.{IsLegalTo}
use Rattle.tl_core.proofs.legality.is_legal.Given as goal

abbrev pub invariant-loop-at : goal.invariant-loop-at
invariant-loop-at l = (l.store ≡ commits_of (take l.at l.entries)) × (l.broken ≡ has_break (take l.at l.entries)) × IsLegalTo l.entries l.at
