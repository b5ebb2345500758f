-- What contracts see of a journal and of its opening.
use Rattle.std.specs.Prelude.{ℕ, List}
use Rattle.std.specs.declared.option.Option.{Option}

-- the disk, the offset of the closed gate, how long a body there is room to append, and the count
-- of faults with which an append broke it
pub record Journal (D : Type 0) : Type 0 where
  pub disk : D
  pub gate : ℕ
  pub spare : ℕ
  pub broken : Option ℕ

-- the disk, the bytes that were read from it, and the offset of the gate that comes next
pub record FoundCommits (D : Type 0) : Type 0 where
  pub disk : D
  pub image : List ℕ
  pub at : ℕ
