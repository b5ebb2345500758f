-- What holds of each statement that a text spells, and which part of it each call asks for.
use Rattle.std.specs.Prelude.{ℤ, pos, negsuc, ◌≤◌, ◌<◌, ◌^◌, IfSome, IsTrue, length}
use Rattle.std.specs.Int.{IsNonNegative}
use Rattle.std.specs.List.{AllByRecursion, list_all}
use Rattle.std.specs.Option.{ForSome}
use Rattle.tl_types.specs.Names.{is_name}
use Rattle.tl_types.specs.declared.cells.Cell.{Cell}
use Rattle.tl_types.specs.declared.cells.Cell.TheVariants as cells
use Rattle.tl_query.specs.declared.ast.Name.{Name}
use Rattle.tl_query.specs.declared.ast.Stamp.{Stamp}
use Rattle.tl_query.specs.declared.ast.CreateForm.{CreateForm}
use Rattle.tl_query.specs.declared.ast.SelectForm.{SelectForm}
use Rattle.tl_query.specs.declared.ast.AggForm.{AggForm}
use Rattle.tl_query.specs.declared.ast.JoinForm.{JoinForm}
use Rattle.tl_query.specs.declared.ast.AsOf.{AsOf}
use Rattle.tl_query.specs.declared.ast.AsOf.TheVariants as as_ofs
use Rattle.tl_query.specs.declared.ast.Over.{Over}
use Rattle.tl_query.specs.declared.ast.Over.TheVariants as overs
use Rattle.tl_query.specs.declared.ast.Pred.{Pred}
use Rattle.tl_query.specs.declared.ast.Test.{Test}
use Rattle.tl_query.specs.declared.ast.Item.{Item}
use Rattle.tl_query.specs.declared.ast.Item.TheVariants as items
use Rattle.tl_query.specs.declared.ast.Query.{Query}
use Rattle.tl_query.specs.declared.ast.Query.TheVariants as queries
use Rattle.tl_query.specs.declared.ast.Statement.{Statement}
use Rattle.tl_query.specs.declared.ast.Statement.TheVariants as statements
use Rattle.tl_query.specs.Grammar.{IsAsked, IsAggregate}

-- WHAT A CHECK ASKS FOR

-- a new table whose names are names, with at most 16 columns
pub record IsNewTable (f : CreateForm) : Type 0 where
  pub name : IsTrue (is_name f.name.text)
  pub columns : IsTrue (list_all (λ c. is_name c.name.text) f.columns)
  pub few : length f.columns ≤ 16

-- a version: not negative
abbrev pub IsVersion : Stamp → Type 0
IsVersion s = IsNonNegative s.value

-- a version after AS OF is not negative; a moment may be
abbrev pub IsGiven : AsOf → Type 0
IsGiven (as_ofs.Version s) = IsVersion s
IsGiven (as_ofs.Moment s) = Unit {0}

-- the versions of a range are not negative
abbrev pub HasVersions : Over → Type 0
HasVersions overs.SystemAll = Unit {0}
HasVersions (overs.System from to) = IsVersion from × IsVersion to
HasVersions (overs.Valid at from to as_of) = ForSome as_of IsGiven

-- a query whose versions are not negative, and whose aggregate has a column where it works on one
abbrev pub IsQuery : Query → Type 0
IsQuery (queries.Select f) = ForSome f.as_of IsGiven
IsQuery (queries.Agg f) = IsAggregate f.kind f.column × HasVersions f.over
IsQuery (queries.Join f) = HasVersions f.over

-- WHAT ELSE A TEXT GIVES

-- the name is a name of the language
abbrev pub IsNamed : Name → Type 0
IsNamed n = IsTrue (is_name n.text)

-- a signed number of 64 bits
abbrev pub IsI64 : ℤ → Type 0
IsI64 (pos n) = n < 2 ^ 63
IsI64 (negsuc n) = n < 2 ^ 63

-- the number after AS OF has 64 bits
abbrev pub IsGivenI64 : AsOf → Type 0
IsGivenI64 (as_ofs.Version s) = IsI64 s.value
IsGivenI64 (as_ofs.Moment s) = IsI64 s.value

-- a number of 64 bits, or a text of at most 65,535 bytes
abbrev pub IsCell : Cell → Type 0
IsCell (cells.Int n) = IsI64 n
IsCell (cells.Text t) = length t ≤ 65535

-- an item's column is a name
abbrev pub IsItem : Item → Type 0
IsItem (items.Column n) = IsNamed n
IsItem (items.ValidFrom at) = Unit {0}
IsItem (items.ValidTo at) = Unit {0}

-- a test of a name with a constant
pub record IsTest (t : Test) : Type 0 where
  pub column : IsNamed t.column
  pub value : IsCell t.value

-- one or more tests on each side of an OR
abbrev pub HasTests : Pred → Type 0
HasTests p = AllByRecursion (λ tests. (1 ≤ length tests) × AllByRecursion IsTest tests) p.any

-- the numbers of a range have 64 bits
abbrev pub HasNumbers : Over → Type 0
HasNumbers overs.SystemAll = Unit {0}
HasNumbers (overs.System from to) = IsI64 from.value × IsI64 to.value
HasNumbers (overs.Valid at from to as_of) =
    IsI64 from.value × IsI64 to.value × IfSome as_of IsGivenI64

-- a table with a column, and a name after KEY
pub record IsSpelledTable (f : CreateForm) : Type 0 where
  pub some : 1 ≤ length f.columns
  pub key : IsNamed f.key

-- all that a row has, or one or more items
pub record IsSpelledSelect (f : SelectForm) : Type 0 where
  pub asked : IsAsked f.all f.items
  pub items : AllByRecursion IsItem f.items
  pub table : IsNamed f.table
  pub tests : HasTests f.pred
  pub valid_at : IfSome f.valid_at (λ v. IsI64 v.value)
  pub as_of : IfSome f.as_of IsGivenI64

-- an aggregate
pub record IsSpelledAgg (f : AggForm) : Type 0 where
  pub column : IfSome f.column IsNamed
  pub table : IsNamed f.table
  pub tests : HasTests f.pred
  pub by : IfSome f.by IsNamed
  pub over : HasNumbers f.over

-- a join
pub record IsSpelledJoin (f : JoinForm) : Type 0 where
  pub left : IsNamed f.left
  pub left_tests : HasTests f.left_pred
  pub right : IsNamed f.right
  pub right_tests : HasTests f.right_pred
  pub left_on : IsNamed f.left_on
  pub right_on : IsNamed f.right_on
  pub over : HasNumbers f.over

-- a query, but for what its check asks for
abbrev pub IsSpelledQuery : Query → Type 0
IsSpelledQuery (queries.Select f) = IsSpelledSelect f
IsSpelledQuery (queries.Agg f) = IsSpelledAgg f
IsSpelledQuery (queries.Join f) = IsSpelledJoin f

-- A statement as a text spells it: names are names, numbers and texts fit, no version is negative,
-- and no list is empty or too long.
abbrev pub IsParsed : Statement → Type 0
IsParsed (statements.Create f) = IsNewTable f × IsSpelledTable f
IsParsed (statements.Put n) = IsNamed n
IsParsed (statements.Remove n) = IsNamed n
IsParsed (statements.Sync n) = IsNamed n
IsParsed (statements.Ask q) = IsQuery q × IsSpelledQuery q
IsParsed (statements.Moment s) = IsI64 s.value
IsParsed (statements.Forget n s) = IsNamed n × IsVersion s × IsI64 s.value
