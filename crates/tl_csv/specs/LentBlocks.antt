-- Blocks that are lent.
use Rattle.std.specs.Prelude.{ℕ, List, [], ◌∷◌, map, unwrap_or, slice_get, if◌then◌else◌}
use Rattle.tl_csv.specs.declared.lent_blocks.LentBlock.{LentBlock}

-- the bytes of each
abbrev pub bytes_of : List LentBlock → List (List ℕ)
bytes_of blocks = map (λ b. b.bytes.now) blocks

-- the bytes of those that stand in one text
abbrev pub plain_of : List LentBlock → List (List ℕ)
plain_of [] = []
plain_of (b ∷ blocks) = if b.is_plain then b.bytes.now ∷ plain_of blocks else plain_of blocks

-- the block at a place; where there is none, one without bytes
abbrev pub block_at : List (List ℕ) → ℕ → List ℕ
block_at blocks place = unwrap_or (slice_get blocks place) []

-- what a reader of blocks shows: all of them, and those that it has yet to come to in their text
pub record BlocksRead : Type 0 where
  pub blocks : List (List ℕ)
  pub to_come : List (List ℕ)
