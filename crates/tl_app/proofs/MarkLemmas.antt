-- The mark before a version.
use Rattle.std.proofs.Common.{◌≡◌, ℕ, ◌≤◌, List, Option, Some, None, refl, arith}
use Rattle.tl_types.specs.declared.commits.Entry.{Entry}
use Rattle.tl_types.specs.Checkpoints.{Checkpoint}
use Rattle.tl_ckpt.specs.Marks.{marks_for, nearest_in}
use Rattle.tl_index.specs.Snapshots.{marks_of, mark_before}
use Rattle.tl_index.proofs.NearestLemmas.{nearest_found, none_nearest}

-- its version is not after that version
pub before_is : (entries : List Entry) (table version : ℕ) → mark_before entries table version ≤ version
before_is entries table version = by_mark (nearest_in (marks_for (marks_of entries) table) version) refl where
  by_mark : (o : Option Checkpoint) → nearest_in (marks_for (marks_of entries) table) version ≡ o → mark_before entries table version ≤ version
  by_mark None is = let none = none_nearest entries (marks_of entries) table version refl is in omega arith
  by_mark (Some mark) is =
      let near = nearest_found entries (marks_of entries) table version mark refl is in
      let same = near.greatest in
      let before = near.before in
      omega arith
