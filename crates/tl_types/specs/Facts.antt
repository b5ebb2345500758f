-- What the types keep of their values.
use Rattle.std.specs.Prelude.{ℕ, ◌+◌, ◌^◌, ◌<◌, ◌≤◌, Bool, true, ◌&&◌, not, nat_le, nat_lt, List, [], ◌∷◌, length, map, Option, Some, None, if◌then◌else◌}
use Rattle.std.specs.List.{list_all, list_any}
use Rattle.tl_types.specs.declared.schemas.Column.{Column}
use Rattle.tl_types.specs.Plain as plain
use Rattle.tl_types.specs.Names.{same_bytes, is_name}

-- no byte string stands twice
abbrev pub are_distinct : List (List ℕ) → Bool
are_distinct [] = true
are_distinct (x ∷ xs) = not (list_any (λ y. same_bytes y x) xs) && are_distinct xs

-- the names of columns, in order
abbrev pub names_of : List Column → List (List ℕ)
names_of columns = map (λ c. c.name) columns

-- the names are names, the columns' names differ, there are 1 to 16 columns, and the key is one of
-- them
abbrev pub is_schema : plain.Schema → Bool
is_schema s =
    is_name s.name && list_all (λ c. is_name c.name) s.columns && are_distinct (names_of s.columns)
    && nat_le (length s.columns) 16 && nat_lt s.key (length s.columns)

-- the schema, where it is one
abbrev pub schema_of : plain.Schema → Option plain.Schema
schema_of s = if is_schema s then Some s else None

-- each id is greater than the one before it
abbrev pub AscendFrom : ℕ → List ℕ → Type 0
AscendFrom low [] = Unit {0}
AscendFrom low (id ∷ ids) = (low ≤ id) × AscendFrom (id + 1) ids

-- the closed ids ascend, and there are fewer than 2 ^ 32 of them and of the opened rows
pub record IsChange (c : plain.Change) : Type 0 where
  pub ascending : AscendFrom 0 c.closes
  pub few_closes : length c.closes < 2 ^ 32
  pub few_opens : length c.opens < 2 ^ 32

-- a row has 1 to 16 cells
pub record IsOpened (o : plain.Opened) : Type 0 where
  pub some : 1 ≤ length o.cells
  pub few : length o.cells ≤ 16
