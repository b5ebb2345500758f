-- Which lists of tokens spell a statement. A statement is a list of parts, and tokens spell it
-- where each token is the part in its place.
use Rattle.std.specs.Prelude.{◌≡◌, ℕ, ◌≤◌, ℤ, Bool, true, false, List, [], ◌∷◌, ◌++◌, length, flat_map, Option, Some, None, is_some}
use Rattle.std.specs.List.{AllByRecursion}
use Rattle.tl_types.specs.Plain as plain
use Rattle.tl_types.specs.declared.cells.Cell.{Cell}
use Rattle.tl_types.specs.declared.cells.Cell.TheVariants as cells
use Rattle.tl_types.specs.declared.cells.Cmp.{Cmp}
use Rattle.tl_types.specs.declared.cells.Cmp.TheVariants as cmps
use Rattle.tl_types.specs.declared.cells.ColumnKind.{ColumnKind}
use Rattle.tl_types.specs.declared.cells.ColumnKind.TheVariants as kinds
use Rattle.tl_query.specs.declared.terminals.Terminal.{Terminal}
use Rattle.tl_types.specs.declared.keywords.Keyword.{Keyword}
use Rattle.tl_types.specs.declared.keywords.Keyword.TheVariants as words
use Rattle.tl_query.specs.declared.terminals.Terminal.TheVariants as terminals
use Rattle.tl_query.specs.declared.terminals.SoftWord.{SoftWord}
use Rattle.tl_query.specs.declared.terminals.SoftWord.TheVariants as soft
use Rattle.tl_query.specs.Terminals.{soft_spelling}
use Rattle.tl_query.specs.declared.tokens.Token.{Token}
use Rattle.tl_query.specs.declared.tokens.Token.TheVariants.{Fixed, Word, Number, Negative, Quoted}
use Rattle.tl_query.specs.declared.tokens.Placed.{Placed}
use Rattle.tl_query.specs.declared.ast.Name.{Name}
use Rattle.tl_query.specs.declared.ast.Stamp.{Stamp}
use Rattle.tl_query.specs.declared.ast.ColumnForm.{ColumnForm}
use Rattle.tl_query.specs.declared.ast.CreateForm.{CreateForm}
use Rattle.tl_query.specs.declared.ast.SelectForm.{SelectForm}
use Rattle.tl_query.specs.declared.ast.AggForm.{AggForm}
use Rattle.tl_query.specs.declared.ast.AggKind.{AggKind}
use Rattle.tl_query.specs.declared.ast.AggKind.TheVariants as aggs
use Rattle.tl_query.specs.declared.ast.JoinForm.{JoinForm}
use Rattle.tl_query.specs.declared.ast.AsOf.{AsOf}
use Rattle.tl_query.specs.declared.ast.AsOf.TheVariants as as_ofs
use Rattle.tl_query.specs.declared.ast.Over.{Over}
use Rattle.tl_query.specs.declared.ast.Over.TheVariants as overs
use Rattle.tl_query.specs.declared.ast.Pred.{Pred}
use Rattle.tl_query.specs.declared.ast.Test.{Test}
use Rattle.tl_query.specs.declared.ast.ValidPoint.{ValidPoint}
use Rattle.tl_query.specs.declared.ast.Item.{Item}
use Rattle.tl_query.specs.declared.ast.Item.TheVariants as items
use Rattle.tl_query.specs.declared.ast.Query.TheVariants as queries
use Rattle.tl_query.specs.declared.ast.Statement.{Statement}
use Rattle.tl_query.specs.declared.ast.Statement.TheVariants as statements

-- WHAT A TOKEN SAYS

-- a name, which a word is
abbrev pub name_by : ℕ → Token → Option Name
name_by at (Word w) = Some (record { text = w; at = at })
name_by at _ = None

-- a version: a number without `-`
abbrev pub version_by : ℕ → Token → Option Stamp
version_by at (Number n) = Some (record { value = n; at = at })
version_by at _ = None

-- a valid time: a number
abbrev pub moment_by : Token → Option ℤ
moment_by (Number n) = Some n
moment_by (Negative n) = Some n
moment_by _ = None

-- a number, with its offset
abbrev pub number_by : ℕ → Token → Option Stamp
number_by at (Number n) = Some (record { value = n; at = at })
number_by at (Negative n) = Some (record { value = n; at = at })
number_by at _ = None

-- a bound of valid time: a number, or FOREVER
abbrev pub bound_by : ℕ → Token → Option Stamp
bound_by at (Number n) = Some (record { value = n; at = at })
bound_by at (Negative n) = Some (record { value = n; at = at })
bound_by at (Fixed (terminals.Keyword words.Forever)) =
    Some (record { value = plain.forever; at = at })
bound_by at _ = None

-- a constant: a number or a text
abbrev pub constant_by : Token → Option Cell
constant_by (Number n) = Some (cells.Int n)
constant_by (Negative n) = Some (cells.Int n)
constant_by (Quoted t) = Some (cells.Text t)
constant_by _ = None

-- PARTS

-- a part of a statement, which one token says
pub data Part : Type 0 where
  terminal : Terminal → Part
  terminal_at : Terminal → ℕ → Part
  said : SoftWord → Part
  identifier : Name → Part
  version : Stamp → Part
  moment : ℤ → Part
  number : Stamp → Part
  bound : Stamp → Part
  constant : Cell → ℕ → Part

-- The token is the part: a keyword or symbol, anywhere or at an offset that the statement keeps;
-- a word that is a name elsewhere; a name, a version, a valid time, a number at an offset, a bound,
-- or a constant at its offset.
abbrev pub IsPart : Part → Placed → Type 0
IsPart (terminal m) p = p.token ≡ Fixed m
IsPart (terminal_at m at) p = p ≡ record { token = Fixed m; at = at }
IsPart (said w) p = p.token ≡ Word (soft_spelling w)
IsPart (identifier n) p = name_by p.at p.token ≡ Some n
IsPart (version s) p = version_by p.at p.token ≡ Some s
IsPart (moment v) p = moment_by p.token ≡ Some v
IsPart (number s) p = number_by p.at p.token ≡ Some s
IsPart (bound s) p = bound_by p.at p.token ≡ Some s
IsPart (constant c at) p = (constant_by p.token ≡ Some c) × (p.at ≡ at)

-- each token is the part in its place
abbrev pub Fits : List Part → List Placed → Type 0
Fits [] [] = Unit {0}
Fits [] (p ∷ ts) = ⊥
Fits (q ∷ parts) [] = ⊥
Fits (q ∷ parts) (p ∷ ts) = IsPart q p × Fits parts ts

-- a keyword, anywhere
abbrev pub keyword : Keyword → Part
keyword k = terminal (terminals.Keyword k)

-- PRODUCTIONS

-- each thing after a terminal
abbrev pub each_after : {A : Type 0} → Terminal → (A → List Part) → List A → List Part
each_after m parts xs = flat_map (λ x. terminal m ∷ parts x) xs

-- things, separated by a terminal
abbrev pub separated : {A : Type 0} → Terminal → (A → List Part) → List A → List Part
separated m parts [] = []
separated m parts (x ∷ xs) = parts x ++ each_after m parts xs

-- the word of a kind of cells
abbrev pub kind_keyword : ColumnKind → Keyword
kind_keyword kinds.IntKind = words.Int
kind_keyword kinds.TextKind = words.Text

-- a column: its name, then INT or TEXT
abbrev pub column_parts : ColumnForm → List Part
column_parts c = identifier c.name ∷ keyword (kind_keyword c.kind) ∷ []

-- VALID, or nothing
abbrev pub valid_parts : Bool → List Part
valid_parts true = keyword words.Valid ∷ []
valid_parts false = []

-- CREATE TABLE name ( columns ) KEY name, and VALID where rows have a valid period
abbrev pub create_parts : CreateForm → List Part
create_parts f =
    keyword words.Create ∷ keyword words.Table ∷ identifier f.name ∷ terminal terminals.Open
    ∷ (separated terminals.Comma column_parts f.columns
    ++ (terminal terminals.Close ∷ keyword words.Key ∷ identifier f.key ∷ valid_parts f.valid))

-- an item: the name of a column, valid_from or valid_to
abbrev pub item_part : Item → Part
item_part (items.Column n) = identifier n
item_part (items.ValidFrom at) = terminal_at (terminals.Keyword words.ValidFrom) at
item_part (items.ValidTo at) = terminal_at (terminals.Keyword words.ValidTo) at

-- an item, as the one part of a list
abbrev pub item_parts : Item → List Part
item_parts x = item_part x ∷ []

-- what is asked for: `*` for all, or items
abbrev pub asked_parts : Bool → List Item → List Part
asked_parts true xs = terminal terminals.Star ∷ []
asked_parts false xs = separated terminals.Comma item_parts xs

-- the symbol of a comparison
abbrev pub cmp_terminal : Cmp → Terminal
cmp_terminal cmps.Eq = terminals.Equal
cmp_terminal cmps.Ne = terminals.Unequal
cmp_terminal cmps.Lt = terminals.Less
cmp_terminal cmps.Le = terminals.AtMost
cmp_terminal cmps.Gt = terminals.Greater
cmp_terminal cmps.Ge = terminals.AtLeast

-- a test: a column, a comparison and a constant
abbrev pub test_parts : Test → List Part
test_parts t =
    identifier t.column ∷ terminal_at (cmp_terminal t.cmp) t.cmp_at ∷ constant t.value t.value_at
    ∷ []

-- tests, separated by AND
abbrev pub conj_parts : List Test → List Part
conj_parts tests = separated (terminals.Keyword words.And) test_parts tests

-- WHERE and tests, separated by OR, or nothing
abbrev pub any_parts : List (List Test) → List Part
any_parts [] = []
any_parts (tests ∷ any) =
    keyword words.Where ∷ separated (terminals.Keyword words.Or) conj_parts (tests ∷ any)

-- which rows
abbrev pub where_parts : Pred → List Part
where_parts p = any_parts p.any

-- VALID AT number, or nothing
abbrev pub valid_at_parts : Option ValidPoint → List Part
valid_at_parts None = []
valid_at_parts (Some v) =
    terminal_at (terminals.Keyword words.Valid) v.pos ∷ keyword words.At ∷ moment v.value ∷ []

-- a version, or MOMENT number
abbrev pub version_or_moment_parts : AsOf → List Part
version_or_moment_parts (as_ofs.Version s) = version s ∷ []
version_or_moment_parts (as_ofs.Moment s) = said soft.Moment ∷ number s ∷ []

-- AS OF version, AS OF MOMENT number, or nothing
abbrev pub as_of_parts : Option AsOf → List Part
as_of_parts None = []
as_of_parts (Some x) = keyword words.As ∷ keyword words.Of ∷ version_or_moment_parts x

-- SELECT, `*` or items, FROM name, and which rows, at which valid time, at which version or moment
abbrev pub select_parts : SelectForm → List Part
select_parts f =
    keyword words.Select
    ∷ (asked_parts f.all f.items
    ++ (keyword words.From ∷ identifier f.table
    ∷ (where_parts f.pred ++ (valid_at_parts f.valid_at ++ as_of_parts f.as_of))))

-- the word of a kind of aggregates
abbrev pub agg_keyword : AggKind → Keyword
agg_keyword aggs.Count = words.Count
agg_keyword aggs.Sum = words.Sum
agg_keyword aggs.Avg = words.Avg
agg_keyword aggs.Min = words.Min
agg_keyword aggs.Max = words.Max

-- the column, where there is one
abbrev pub column_name_parts : Option Name → List Part
column_name_parts None = []
column_name_parts (Some n) = identifier n ∷ []

-- BY name, or nothing
abbrev pub by_parts : Option Name → List Part
by_parts None = []
by_parts (Some n) = keyword words.By ∷ identifier n ∷ []

-- OVER, and a range of versions or of valid time
abbrev pub over_parts : Over → List Part
over_parts overs.SystemAll = keyword words.Over ∷ keyword words.System ∷ keyword words.All ∷ []
over_parts (overs.System from to) =
    keyword words.Over ∷ keyword words.System ∷ version from ∷ keyword words.To ∷ version to ∷ []
over_parts (overs.Valid at from to as_of) =
    keyword words.Over ∷ terminal_at (terminals.Keyword words.Valid) at ∷ bound from
    ∷ keyword words.To ∷ bound to ∷ as_of_parts as_of

-- an aggregate, its column if it has one, FROM name, which rows, the column of the groups, and the
-- range
abbrev pub agg_parts : AggForm → List Part
agg_parts f =
    keyword (agg_keyword f.kind)
    ∷ (column_name_parts f.column
    ++ (keyword words.From ∷ identifier f.table
    ∷ (where_parts f.pred ++ (by_parts f.by ++ over_parts f.over))))

-- JOIN name, which of its rows, WITH name, which of its rows, ON name = name, and the range
abbrev pub join_parts : JoinForm → List Part
join_parts f =
    keyword words.Join ∷ identifier f.left
    ∷ (where_parts f.left_pred
    ++ (keyword words.With ∷ identifier f.right
    ∷ (where_parts f.right_pred
    ++ (keyword words.On ∷ identifier f.left_on ∷ terminal terminals.Equal ∷ identifier f.right_on
    ∷ over_parts f.over))))

-- the parts of a statement
abbrev pub statement_parts : Statement → List Part
statement_parts (statements.Create f) = create_parts f
statement_parts (statements.Put n) = keyword words.Put ∷ identifier n ∷ []
statement_parts (statements.Remove n) = keyword words.Remove ∷ identifier n ∷ []
statement_parts (statements.Sync n) = said soft.Sync ∷ identifier n ∷ []
statement_parts (statements.Ask (queries.Select f)) = select_parts f
statement_parts (statements.Ask (queries.Agg f)) = agg_parts f
statement_parts (statements.Ask (queries.Join f)) = join_parts f
statement_parts (statements.Moment s) = said soft.Moment ∷ number s ∷ []
statement_parts (statements.Forget n s) =
    said soft.Forget ∷ identifier n ∷ said soft.Before ∷ version s ∷ []

-- `;`, or nothing
abbrev pub end_parts : Bool → List Part
end_parts true = terminal terminals.Semicolon ∷ []
end_parts false = []

-- STATEMENTS

-- all and no items, or one or more items
abbrev pub IsAsked : Bool → List Item → Type 0
IsAsked true xs = xs ≡ []
IsAsked false xs = 1 ≤ length xs

-- one or more tests after each OR
abbrev pub IsPred : Pred → Type 0
IsPred p = AllByRecursion (λ tests. 1 ≤ length tests) p.any

-- the aggregate works on a column: each does but COUNT
abbrev pub takes_column : AggKind → Bool
takes_column aggs.Count = false
takes_column aggs.Sum = true
takes_column aggs.Avg = true
takes_column aggs.Min = true
takes_column aggs.Max = true

-- an aggregate has a column exactly where it works on one
abbrev pub IsAggregate : AggKind → Option Name → Type 0
IsAggregate kind column = is_some column ≡ takes_column kind

-- a table with 1 to 16 columns
pub record IsCreate (f : CreateForm) : Type 0 where
  pub some : 1 ≤ length f.columns
  pub few : length f.columns ≤ 16

-- a query for all that a row has, or for one or more items
pub record IsSelect (f : SelectForm) : Type 0 where
  pub asked : IsAsked f.all f.items
  pub tested : IsPred f.pred

-- an aggregate
pub record IsAgg (f : AggForm) : Type 0 where
  pub aggregate : IsAggregate f.kind f.column
  pub tested : IsPred f.pred

-- a join
pub record IsJoin (f : JoinForm) : Type 0 where
  pub left_tested : IsPred f.left_pred
  pub right_tested : IsPred f.right_pred

-- what the parts of a statement don't say of it
abbrev pub IsStatement : Statement → Type 0
IsStatement (statements.Create f) = IsCreate f
IsStatement (statements.Put n) = Unit {0}
IsStatement (statements.Remove n) = Unit {0}
IsStatement (statements.Sync n) = Unit {0}
IsStatement (statements.Ask (queries.Select f)) = IsSelect f
IsStatement (statements.Ask (queries.Agg f)) = IsAgg f
IsStatement (statements.Ask (queries.Join f)) = IsJoin f
IsStatement (statements.Moment s) = Unit {0}
IsStatement (statements.Forget n s) = Unit {0}

-- The tokens spell the statement: they are its parts, and a `;` or nothing.
abbrev pub IsSpelling : List Placed → Statement → Type 0
IsSpelling ts s = IsStatement s × ((end : Bool) × Fits (statement_parts s ++ end_parts end) ts)

-- The tokens are a prefix of tokens that spell a statement.
abbrev pub IsViable : List Placed → Type 0
IsViable ts = (more : List Placed) × (s : Statement) × IsSpelling (ts ++ more) s
