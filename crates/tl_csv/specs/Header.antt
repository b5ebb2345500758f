-- What the header of a block names: what each field of the records behind it is, and where each
-- needed field stands.
use Rattle.std.specs.Prelude.{ℕ, ◌+◌, Bool, true, false, not, List, length, take, drop, codes, Option, Some, None, Result, Ok, Err, if◌then◌else◌}
use Rattle.std.specs.List.{find, list_any, position}
use Rattle.std.specs.Option.{ok_or, option_map, option_or}
use Rattle.std.specs.Str.{is_utf8}
use Rattle.tl_types.specs.declared.schemas.Column.{Column}
use Rattle.tl_types.specs.Names.{same_bytes}
use Rattle.tl_types.specs.Plain as plain
use Rattle.tl_csv.specs.declared.faults.CsvFault.{CsvFault}
use Rattle.tl_csv.specs.declared.faults.CsvFault.TheVariants as fault
use Rattle.tl_csv.specs.declared.needs.BatchKind.{BatchKind}
use Rattle.tl_csv.specs.declared.needs.BatchKind.TheVariants.{PutKind, RemoveKind, SyncKind}
use Rattle.tl_csv.specs.declared.needs.FieldKind.{FieldKind}
use Rattle.tl_csv.specs.declared.needs.FieldKind.TheVariants as kinds
use Rattle.tl_csv.specs.declared.layouts.PeriodPlaces.{PeriodPlaces}
use Rattle.tl_csv.specs.Layouts.{Layout}
use Rattle.tl_csv.specs.Faults.{◌>>=◌, each_from, unless}

-- WHAT A BATCH NEEDS: columns, and behind them the two ends of a period where the table has valid
-- time

-- the columns whose cells a batch gives: those of a row are all, those of a removal the key alone
abbrev pub columns_of : plain.Schema → BatchKind → List Column
columns_of schema PutKind = schema.columns
columns_of schema SyncKind = schema.columns
columns_of schema RemoveKind = take 1 (drop schema.key schema.columns)

-- the column has the name
abbrev pub has_name : List ℕ → Column → Bool
has_name name column = same_bytes column.name name

-- what a field with the name is, where one of the columns has it
abbrev pub column_kind : List Column → List ℕ → Option FieldKind
column_kind columns name = option_map (λ c. kinds.Cell c.kind) (find (has_name name) columns)

-- what a field with the name is, where an end of a period has it
abbrev pub end_kind : List ℕ → Option FieldKind
end_kind name =
    if same_bytes (codes "valid_from") name then Some kinds.From
    else if same_bytes (codes "valid_to") name then Some kinds.To
    else None

-- the same, in a table that has valid time or not
abbrev pub period_kind : Bool → List ℕ → Option FieldKind
period_kind true name = end_kind name
period_kind false name = None

-- what a field with the name is, where it is one that the batch needs
abbrev pub kind_needed : plain.Schema → BatchKind → List ℕ → Option FieldKind
kind_needed schema kind name =
    option_or (column_kind (columns_of schema kind) name) (period_kind schema.valid name)

-- THE HEADER

-- the first field that is not UTF-8
abbrev pub not_utf8 : List (List ℕ) → Option CsvFault
not_utf8 header =
    option_map (λ i. fault.NotUtf8 1 (i + 1)) (position (λ name. not (is_utf8 name)) header)

-- a name stands among these fields
abbrev pub is_named : List ℕ → List (List ℕ) → Bool
is_named name fields = list_any (λ field. same_bytes field name) fields

-- the place of the first field with the name
abbrev pub place_of : List ℕ → List (List ℕ) → Option ℕ
place_of name fields = position (λ field. same_bytes field name) fields

-- what the i-th field of the records is: its name must be needed, and no field before it may have
-- the same
abbrev pub kind_at : plain.Schema → BatchKind → List (List ℕ) → ℕ → List ℕ
    → Result FieldKind CsvFault
kind_at schema kind header i name =
    ok_or (kind_needed schema kind name) (fault.HeaderName (i + 1)) >>= λ k.
    if is_named name (take i header) then Err (fault.HeaderTwice (i + 1)) else Ok k

-- what each field of the records is
abbrev pub kinds_of : plain.Schema → BatchKind → List (List ℕ) → Result (List FieldKind) CsvFault
kinds_of schema kind header = each_from (kind_at schema kind header) 0 header

-- where the i-th needed field stands in the header, which must name it
abbrev pub place_named : List (List ℕ) → ℕ → List ℕ → Result ℕ CsvFault
place_named header i name = ok_or (place_of name header) (fault.HeaderMissing (i + 1))

-- where the i-th needed field stands, which is this column
abbrev pub place_at : List (List ℕ) → ℕ → Column → Result ℕ CsvFault
place_at header i column = place_named header i column.name

-- where the columns stand
abbrev pub places_of : List (List ℕ) → List Column → Result (List ℕ) CsvFault
places_of header columns = each_from (place_at header) 0 columns

-- where the ends of the period stand, before which so many fields are needed
abbrev pub period_at : List (List ℕ) → ℕ → Bool → Result (Option PeriodPlaces) CsvFault
period_at header n false = Ok None
period_at header n true =
    place_named header n (codes "valid_from") >>= λ from.
    place_named header (n + 1) (codes "valid_to") >>= λ to.
    Ok (Some (record { from = from; to = to }))

-- the layout that a header gives the records behind it, or the header's first fault: each field is
-- UTF-8, then each names a needed field and another one than those before it, and then each needed
-- field is named
abbrev pub layout_of : plain.Schema → BatchKind → List (List ℕ) → Result Layout CsvFault
layout_of schema kind header =
    unless (not_utf8 header)
    (kinds_of schema kind header >>= λ kinds.
    places_of header (columns_of schema kind) >>= λ columns.
    period_at header (length columns) schema.valid >>= λ period.
    Ok (record { kinds = kinds; columns = columns; period = period }))
