-- What is kept beside the entries of a world, for speed.
use Rattle.std.specs.Prelude.{◌≡◌, ℕ, Bool, true, ◌&&◌, not, List, Option, Some, None}
use Rattle.tl_types.specs.declared.commits.Commit.{Commit}
use Rattle.tl_types.specs.declared.commits.Entry.{Entry}
use Rattle.tl_types.specs.declared.commits.Entry.TheVariants as entry
use Rattle.tl_types.specs.Entries.{commits_of, has_break}
use Rattle.tl_types.specs.History.{database_of, fits}
use Rattle.tl_types.specs.Limits.{standard_limits}
use Rattle.tl_core.specs.declared.passes.PassState.{PassState}
use Rattle.tl_core.specs.World.{IsLegal}

-- an entry that is a commit fits these commits, by the standard limits
abbrev pub fits_store : List Commit → Entry → Bool
fits_store commits (entry.Commit commit) = fits standard_limits (database_of commits) commit
fits_store commits (entry.Mark table version) = true
fits_store commits (entry.Break commit) = true

-- there was no break, and the commit fits these, by the standard limits
abbrev pub takes : Bool → List Commit → Commit → Bool
takes broken commits commit = not broken && fits standard_limits (database_of commits) commit

-- how many entries a pass has seen, none where there is no pass
abbrev pub seen_at : Option PassState → ℕ
seen_at None = 0
seen_at (Some pass) = pass.seen

-- the store stands for the commits among the entries, the flag says whether a break is there, and
-- the world is legal
pub record IsKept (entries : List Entry) (passes : List PassState) (store : List Commit)
    (broken : Bool) : Type 0 where
  pub commits : store ≡ commits_of entries
  pub break : broken ≡ has_break entries
  pub legal : IsLegal (record { entries = entries; passes = passes })
