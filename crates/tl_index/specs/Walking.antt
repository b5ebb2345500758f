-- Where a walk along the events of a table begins.
use Rattle.std.specs.Prelude.{◌≡◌, ◌≤◌, ℕ, Bool, List}
use Rattle.tl_types.specs.Plain as plain
use Rattle.tl_types.specs.Events.{place_of}
use Rattle.tl_types.specs.Walks.{standing}

-- the set is that of the rows that stand at a version not after this one, and the place is where
-- its events end
pub record IsStart (rows : List plain.Row) (set : List Bool) (place version : ℕ) : Type 0 where
  pub base : ℕ
  pub not_after : base ≤ version
  pub set_is : set ≡ standing rows base
  pub place_is : place ≡ place_of rows base
