-- What every list of steps keeps of a world.
use Rattle.std.specs.Prelude.{◌≡◌, ℕ, ◌≤◌, List, ◌++◌, take, All, Option, Some, None}
use Rattle.std.specs.List.{AllZip}
use Rattle.tl_types.specs.declared.commits.Entry.{Entry}
use Rattle.tl_types.specs.Entries.{commits_of}
use Rattle.tl_types.specs.History.{database_at}
use Rattle.tl_core.specs.declared.passes.Build.{Build}
use Rattle.tl_core.specs.declared.passes.PassState.{PassState}
use Rattle.tl_types.specs.Checkpoints.{checkpoint_at}
use Rattle.tl_types.specs.Legality.{database_behind, version_at}
use Rattle.tl_core.specs.World.{World, IsLegal}

-- the new list begins with the old one
abbrev pub Extends : List Entry → List Entry → Type 0
Extends old new = (more : List Entry) × (new ≡ old ++ more)

-- the checkpoint that is built on the first entries, as many as the base says, is the checkpoint of
-- the present tables at the base's version
abbrev pub StandsAtBase : List Entry → Option Build → Type 0
StandsAtBase entries None = Unit {0}
StandsAtBase entries (Some build) =
    let version = version_at entries build.base in
    checkpoint_at (database_behind (take build.base entries)) build.table version
    ≡ checkpoint_at (database_behind entries) build.table version

-- the tables of the first entries, so many, are those of the present commits cut to the number of
-- commits among them
abbrev pub IsCut : List Entry → ℕ → Type 0
IsCut entries seen =
    database_behind (take seen entries) ≡ database_at (commits_of entries) (version_at entries seen)

-- the new world is legal, and goes on from the old one: its entries begin with the old ones, and no
-- pass has seen less; each build's checkpoint is that of the present tables at its version; and the
-- tables that a pass has seen are those of the present commits, cut to the commits that it has seen
pub record GoesOn (old new : World) : Type 0 where
  pub legal : IsLegal new
  pub entries : Extends old.entries new.entries
  pub passes : AllZip (λ (before after : PassState). before.seen ≤ after.seen) old.passes new.passes
  pub builds : All (λ pass. StandsAtBase new.entries pass.build) new.passes
  pub tables : All (λ pass. IsCut new.entries pass.seen) new.passes
