use Rattle.std.proofs.Common.{◌≡◌, take}
use Rattle.tl_types.specs.Entries.{commits_of}
use Rattle.tl_core.proofs.entries.store_of.Given as goal

abbrev pub invariant-loop-entry : goal.invariant-loop-entry
invariant-loop-entry l = l.store ≡ commits_of (take l.entry-index l.entries)
