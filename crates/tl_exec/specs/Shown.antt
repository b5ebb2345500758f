-- Rows of a table that are shown as the rows of an answer.
use Rattle.std.specs.Prelude.{◌≡◌, ℕ, ◌+◌, ◌*◌, ℤ, ◌<◌, Bool, true, IsTrue, List, [], ◌∷◌, length, map, Option, None, Some, if◌then◌else◌}
use Rattle.std.specs.List.{filter, All}
use Rattle.tl_types.specs.declared.answers.Field.{Field}
use Rattle.tl_types.specs.History.{is_within}
use Rattle.tl_types.specs.Plain as plain
use Rattle.tl_query.specs.declared.typed_queries.TypedItem.{TypedItem}
use Rattle.tl_query.specs.declared.typed_queries.TypedItem.TheVariants as item
use Rattle.tl_query.specs.Fields.{row_fields}
use Rattle.tl_lanes.specs.Masks.{is_bit}
use Rattle.tl_store.specs.Reading.{columns_of, has_periods, row_of}

-- the rows of a table that are in a set, in order of id
abbrev pub rows_in_set : List Bool → List plain.Row → List plain.Row
rows_in_set [] rows = []
rows_in_set (member ∷ members) [] = []
rows_in_set (member ∷ members) (row ∷ rows) =
    if member then row ∷ rows_in_set members rows else rows_in_set members rows

-- the row is valid at the moment, where one is given
abbrev pub is_valid_at : Option ℤ → plain.Row → Bool
is_valid_at None row = true
is_valid_at (Some moment) row = is_within moment row.period

-- the items of the rows of a set that are valid at the moment where one is given, in order of id
abbrev pub fields_in_set : List TypedItem → Option ℤ → List Bool → List plain.Row
    → List (List Field)
fields_in_set items valid_at set rows =
    map (row_fields items) (filter (is_valid_at valid_at) (rows_in_set set rows))

-- a row as the only row of an answer, where it is valid at the moment
abbrev pub fields_if_valid : List TypedItem → Option ℤ → plain.Row → List (List Field)
fields_if_valid items valid_at row =
    if is_valid_at valid_at row then row_fields items row ∷ [] else []

-- the rows of the table have the item: the column is there, or the rows have valid periods
abbrev pub HasItem : plain.Database → ℕ → TypedItem → Type 0
HasItem db table (item.Column place) = place < length (columns_of db table)
HasItem db table item.ValidFrom = IsTrue (has_periods db table)
HasItem db table item.ValidTo = IsTrue (has_periods db table)

-- they have all of the items
abbrev pub HasItems : plain.Database → ℕ → List TypedItem → Type 0
HasItems db table items = All (HasItem db table) items

-- where a moment is given, the rows of the table have valid periods
abbrev pub HasMoment : plain.Database → ℕ → Option ℤ → Type 0
HasMoment db table None = Unit {0}
HasMoment db table (Some moment) = IsTrue (has_periods db table)

-- the bits of a word tell which rows of a table are valid at a moment, from id 64 `at` on
abbrev pub TellsValid : plain.Database → ℕ → ℤ → ℕ → ℕ → Type 0
TellsValid db table moment at bits =
    (k : ℕ) (r : plain.Row) → k < 64 → row_of db table (64 * at + k) ≡ Some r
    → is_bit bits k ≡ is_within moment r.period

-- the same, where a moment is asked
abbrev pub TellsAsked : plain.Database → ℕ → Option ℤ → ℕ → ℕ → Type 0
TellsAsked db table None at bits = Unit {0}
TellsAsked db table (Some moment) at bits = TellsValid db table moment at bits
