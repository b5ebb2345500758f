-- The check of a new table, and the parts of the check of a query: what names mean, and the first
-- of several faults.
use Rattle.std.specs.Prelude.{ℕ, nat_abs, Bool, true, false, ◌&&◌, ◌||◌, not, nat_lt, ◌==◌, List, [], ◌∷◌, ◌++◌, map, take, Option, Some, None, is_some, Result, Ok, Err, if◌then◌else◌}
use Rattle.std.specs.List.{list_any, fold, position, enumerate_from}
use Rattle.tl_types.specs.declared.schemas.Column.{Column}
use Rattle.tl_types.specs.Names.{same_bytes}
use Rattle.tl_types.specs.Plain as plain
use Rattle.tl_types.specs.History.{version_at_moment}
use Rattle.tl_types.specs.Resolving.{find_table}
use Rattle.tl_types.specs.Results.{IsUnless}
use Rattle.tl_query.specs.declared.ast.Name.{Name}
use Rattle.tl_query.specs.declared.ast.Stamp.{Stamp}
use Rattle.tl_query.specs.declared.ast.AsOf.{AsOf}
use Rattle.tl_query.specs.declared.ast.AsOf.TheVariants as as_ofs
use Rattle.tl_query.specs.declared.ast.Item.{Item}
use Rattle.tl_query.specs.declared.ast.Item.TheVariants as item
use Rattle.tl_query.specs.declared.ast.SelectForm.{SelectForm}
use Rattle.tl_query.specs.declared.ast.ColumnForm.{ColumnForm}
use Rattle.tl_query.specs.declared.ast.CreateForm.{CreateForm}
use Rattle.tl_query.specs.declared.typed_queries.TypedItem.{TypedItem}
use Rattle.tl_query.specs.declared.typed_queries.TypedItem.TheVariants as typed_item
use Rattle.tl_query.specs.declared.check_faults.CheckFault.{CheckFault}
use Rattle.tl_query.specs.declared.check_faults.CheckFault.TheVariants as fault

-- THE FIRST OF SEVERAL FAULTS

-- where a fault stands
abbrev pub place_of : CheckFault → ℕ
place_of (fault.UnknownTable at) = at
place_of (fault.UnknownColumn at) = at
place_of (fault.WrongType at) = at
place_of (fault.NotValidTable at) = at
place_of (fault.VersionAhead at asked now) = at
place_of (fault.EmptyRange at) = at
place_of (fault.ColumnTwice at) = at
place_of fault.NoMemory = 0
place_of (fault.Forgotten at floor) = at

-- the number of a fault, which decides between two at one place
abbrev pub rank_of : CheckFault → ℕ
rank_of (fault.UnknownTable at) = 1
rank_of (fault.UnknownColumn at) = 2
rank_of (fault.WrongType at) = 3
rank_of (fault.NotValidTable at) = 4
rank_of (fault.VersionAhead at asked now) = 5
rank_of (fault.EmptyRange at) = 6
rank_of (fault.ColumnTwice at) = 7
rank_of fault.NoMemory = 8
rank_of (fault.Forgotten at floor) = 9

-- the first fault comes before the second: it stands further to the left, or at the same place with
-- a lesser number
abbrev pub comes_before : CheckFault → CheckFault → Bool
comes_before e f =
    nat_lt (place_of e) (place_of f) || (place_of e == place_of f) && nat_lt (rank_of e) (rank_of f)

-- the earlier of two faults, where there are two
abbrev pub earlier : Option CheckFault → Option CheckFault → Option CheckFault
earlier None f = f
earlier (Some e) None = Some e
earlier (Some e) (Some f) = if comes_before f e then Some f else Some e

-- the first of the faults that there are
abbrev pub first_of : List (Option CheckFault) → Option CheckFault
first_of faults = fold earlier None faults

-- a fault where a test says so
abbrev pub fault_if : Bool → CheckFault → Option CheckFault
fault_if true f = Some f
fault_if false f = None

-- QUERIES

-- the number and the schema of the table that a name means
abbrev pub table_named : plain.Database → Name → Option (ℕ × plain.Schema)
table_named db name = known (find_table name.text db.tables) where
  known : Option (ℕ × plain.Table) → Option (ℕ × plain.Schema)
  known None = None
  known (Some t) = Some (t.0, t.1.schema)

-- the floor of the table that a name means, 0 where it means none
abbrev pub floor_named : plain.Database → Name → ℕ
floor_named db name = known (find_table name.text db.tables) where
  known : Option (ℕ × plain.Table) → ℕ
  known None = 0
  known (Some t) = t.1.floor

-- the place of a name among columns
abbrev pub place_among : List Column → List ℕ → Option ℕ
place_among columns name = position (λ c. same_bytes c.name name) columns

-- the place of a name among the columns of a table
abbrev pub column_of : plain.Schema → List ℕ → Option ℕ
column_of schema name = place_among schema.columns name

-- the fault of an item, where its table is known
abbrev pub item_fault : plain.Schema → Item → Option CheckFault
item_fault schema (item.Column name) =
    fault_if (not (is_some (column_of schema name.text))) (fault.UnknownColumn name.at)
item_fault schema (item.ValidFrom at) = fault_if (not schema.valid) (fault.NotValidTable at)
item_fault schema (item.ValidTo at) = fault_if (not schema.valid) (fault.NotValidTable at)

-- what is known of versions where a query is checked: the number of commits, the stamps, and the
-- least version that may be asked of the query's tables
pub record Times : Type 0 where
  pub now : ℕ
  pub stamps : List plain.Stamp
  pub floor : ℕ

-- the number after AS OF, with MOMENT or without
abbrev pub stamp_of : AsOf → Stamp
stamp_of (as_ofs.Version stamp) = stamp
stamp_of (as_ofs.Moment stamp) = stamp

-- the version that what follows AS OF stands for
abbrev pub version_meant : Times → AsOf → ℕ
version_meant times (as_ofs.Version stamp) = nat_abs stamp.value
version_meant times (as_ofs.Moment stamp) = version_at_moment times.now times.stamps stamp.value

-- a version is after the last commit, where it is spelled without MOMENT
abbrev pub ahead_fault : ℕ → AsOf → Option CheckFault
ahead_fault now (as_ofs.Version stamp) =
    fault_if (nat_lt now (nat_abs stamp.value))
    (fault.VersionAhead stamp.at (nat_abs stamp.value) now)
ahead_fault now (as_ofs.Moment stamp) = None

-- the version that is asked for is after the last commit
abbrev pub version_fault : Times → Option AsOf → Option CheckFault
version_fault times None = None
version_fault times (Some as_of) = ahead_fault times.now as_of

-- the version that is asked for is before the least one that may be asked
abbrev pub forgotten_fault : Times → Option AsOf → Option CheckFault
forgotten_fault times None = None
forgotten_fault times (Some as_of) =
    fault_if (nat_lt (version_meant times as_of) times.floor)
    (fault.Forgotten (stamp_of as_of).at times.floor)

-- a number, 0 where there is none
abbrev pub or_zero : Option ℕ → ℕ
or_zero None = 0
or_zero (Some n) = n

-- an item by number
abbrev pub typed_item_of : plain.Schema → Item → TypedItem
typed_item_of schema (item.Column name) = typed_item.Column (or_zero (column_of schema name.text))
typed_item_of schema (item.ValidFrom at) = typed_item.ValidFrom
typed_item_of schema (item.ValidTo at) = typed_item.ValidTo

-- the ends of the valid period, where rows have one
abbrev pub period_items : Bool → List TypedItem
period_items true = typed_item.ValidFrom ∷ typed_item.ValidTo ∷ []
period_items false = []

-- what `*` stands for: all columns in order, then the ends of the valid period where the table's
-- rows have one
abbrev pub all_items : plain.Schema → List TypedItem
all_items schema =
    map (λ c. typed_item.Column c.0) (enumerate_from 0 schema.columns) ++ period_items schema.valid

-- the items that are asked for, by number
abbrev pub typed_items_of : plain.Schema → SelectForm → List TypedItem
typed_items_of schema form =
    if form.all then all_items schema else map (typed_item_of schema) form.items

-- the version that is asked for: the last one where none is given
abbrev pub version_of : Times → Option AsOf → ℕ
version_of times None = times.now
version_of times (Some as_of) = version_meant times as_of

-- NEW TABLES

-- the column at a place has the name of an earlier one
abbrev pub twice_at : List ColumnForm → ℕ × ColumnForm → Option CheckFault
twice_at columns (place, column) =
    fault_if (list_any (λ e. same_bytes e.name.text column.name.text) (take place columns))
    (fault.ColumnTwice column.name.at)

-- the first column that has the name of an earlier one
abbrev pub twice_fault : List ColumnForm → Option CheckFault
twice_fault columns = first_of (map (twice_at columns) (enumerate_from 0 columns))

-- the columns of a new table
abbrev pub columns_of : List ColumnForm → List Column
columns_of forms = map (λ c. record { name = c.name.text; kind = c.kind }) forms

-- the place of the key of a new table
abbrev pub key_of : CreateForm → Option ℕ
key_of form = position (λ c. same_bytes c.name.text form.key.text) form.columns

-- the first fault of a CREATE: two columns of one name, or a key that is no column
abbrev pub create_fault : CreateForm → Option CheckFault
create_fault form =
    earlier (twice_fault form.columns)
    (fault_if (not (is_some (key_of form))) (fault.UnknownColumn form.key.at))

-- the schema of a new table, or its first fault
abbrev pub checked_create : CreateForm → Result plain.Schema CheckFault
checked_create form = unless (create_fault form) where
  unless : Option CheckFault → Result plain.Schema CheckFault
  unless (Some f) = Err f
  unless None =
      Ok (record {
        name = form.name.text;
        columns = columns_of form.columns;
        key = or_zero (key_of form);
        valid = form.valid;
      })

-- the answer is the one that is meant, or memory ran out
abbrev pub IsUnlessMemory : {X : Type 0} → Result X CheckFault → Result X CheckFault → Type 0
IsUnlessMemory answer meant = IsUnless fault.NoMemory answer meant
