-- Reading the tokens of a statement from the left. Each reader gives a value and the tokens after
-- it, or where it stops: at the offset of a token, or at the end.
use Rattle.std.specs.Prelude.{◌≡◌, ℕ, ℤ, Bool, true, false, suc, zero, if◌then◌else◌, List, [], ◌∷◌, ◌++◌, length, Option, Some, None, Result, Ok, Err}
use Rattle.std.specs.Option.{option_map}
use Rattle.tl_types.specs.declared.cells.Cell.{Cell}
use Rattle.tl_types.specs.declared.cells.Cmp.{Cmp}
use Rattle.tl_types.specs.declared.cells.Cmp.TheVariants as cmps
use Rattle.tl_types.specs.declared.cells.ColumnKind.{ColumnKind}
use Rattle.tl_types.specs.declared.cells.ColumnKind.TheVariants as kinds
use Rattle.tl_query.specs.declared.terminals.Terminal.{Terminal}
use Rattle.tl_types.specs.declared.keywords.Keyword.TheVariants as words
use Rattle.tl_query.specs.declared.terminals.Terminal.TheVariants as terminals
use Rattle.tl_query.specs.declared.terminals.SoftWord.{SoftWord}
use Rattle.tl_query.specs.declared.terminals.SoftWord.TheVariants as soft
use Rattle.tl_types.specs.Names.{same_bytes}
use Rattle.tl_query.specs.declared.tokens.Token.{Token}
use Rattle.tl_query.specs.declared.tokens.Token.TheVariants.{Fixed, Word}
use Rattle.tl_query.specs.declared.tokens.Placed.{Placed}
use Rattle.tl_query.specs.declared.ast.Name.{Name}
use Rattle.tl_query.specs.declared.ast.Stamp.{Stamp}
use Rattle.tl_query.specs.declared.ast.ColumnForm.{ColumnForm}
use Rattle.tl_query.specs.declared.ast.AggKind.{AggKind}
use Rattle.tl_query.specs.declared.ast.AggKind.TheVariants as aggs
use Rattle.tl_query.specs.declared.ast.AsOf.{AsOf}
use Rattle.tl_query.specs.declared.ast.AsOf.TheVariants as as_ofs
use Rattle.tl_query.specs.declared.ast.Over.{Over}
use Rattle.tl_query.specs.declared.ast.Over.TheVariants as overs
use Rattle.tl_query.specs.declared.ast.Pred.{Pred}
use Rattle.tl_query.specs.declared.ast.Test.{Test}
use Rattle.tl_query.specs.declared.ast.ValidPoint.{ValidPoint}
use Rattle.tl_query.specs.declared.ast.Item.{Item}
use Rattle.tl_query.specs.declared.ast.Item.TheVariants as items
use Rattle.tl_query.specs.declared.ast.Query.TheVariants as queries
use Rattle.tl_query.specs.declared.ast.Statement.{Statement}
use Rattle.tl_query.specs.declared.ast.Statement.TheVariants as statements
use Rattle.tl_query.specs.declared.token_parsers.Stop.{Stop}
use Rattle.tl_query.specs.declared.token_parsers.Stop.TheVariants as stops
use Rattle.tl_query.specs.Terminals.{same_terminal, soft_spelling}
use Rattle.tl_query.specs.Grammar.{name_by, version_by, moment_by, number_by, bound_by, constant_by}

infixl 10 ◌>>=◌
abbrev pub ◌>>=◌ : {A B : Type 0} → Result A (Option ℕ) → (A → Result B (Option ℕ))
    → Result B (Option ℕ)
(Ok x) >>= f = f x
(Err e) >>= f = Err e

-- What a function stopped with is where reading stops, unless memory ran out.
abbrev pub Fails : {Y : Type 0} → Stop → Result Y (Option ℕ) → Type 0
Fails stops.NoMemory read = Unit {0}
Fails stops.End read = read ≡ Err None
Fails (stops.Token at) read = read ≡ Err (Some at)

-- What a function returned, seen by view, is what reading gives, unless memory ran out.
abbrev pub Gives : {X Y : Type 0} → (X → Y) → Result X Stop → Result Y (Option ℕ) → Type 0
Gives view (Ok x) read = read ≡ Ok (view x)
Gives view (Err e) read = Fails e read

-- a function stops at this token, or at the end
abbrev pub IsStopAt : Stop → Option ℕ → Type 0
IsStopAt stops.NoMemory place = ⊥
IsStopAt stops.End place = place ≡ None
IsStopAt (stops.Token at) place = place ≡ Some at

-- ONE TOKEN

-- the offset of the first token
abbrev pub first_offset : List Placed → Option ℕ
first_offset [] = None
first_offset (p ∷ ts) = Some p.at

-- the token is this terminal
abbrev pub is_fixed : Terminal → Token → Bool
is_fixed m (Fixed k) = same_terminal k m
is_fixed m _ = false

-- one value where there is none, and another made of what is there
abbrev pub where_some : {A B : Type 0} → Option A → B → (A → B) → B
where_some None y f = y
where_some (Some x) y f = f x

-- the name that the token is
abbrev pub as_name : Placed → Option Name
as_name p = name_by p.at p.token

-- the number without a sign that the token is
abbrev pub as_version : Placed → Option Stamp
as_version p = version_by p.at p.token

-- the valid time that the token is
abbrev pub as_moment : Placed → Option ℤ
as_moment p = moment_by p.token

-- the number that the token is, with its offset
abbrev pub as_number : Placed → Option Stamp
as_number p = number_by p.at p.token

-- the token is this word
abbrev pub is_soft : SoftWord → Token → Bool
is_soft w (Word name) = same_bytes name (soft_spelling w)
is_soft w _ = false

-- the offset of this word, where the token is it
abbrev pub as_soft : SoftWord → Placed → Option ℕ
as_soft w p = if is_soft w p.token then Some p.at else None

-- the bound that the token is
abbrev pub as_bound : Placed → Option Stamp
as_bound p = bound_by p.at p.token

-- the constant that the token is, and its offset
abbrev pub as_constant : Placed → Option (Cell × ℕ)
as_constant p = option_map (λ c. (c, p.at)) (constant_by p.token)

-- the item that the token is
abbrev pub item_by : ℕ → Token → Option Item
item_by at (Word w) = Some (items.Column (record { text = w; at = at }))
item_by at (Fixed (terminals.Keyword words.ValidFrom)) = Some (items.ValidFrom at)
item_by at (Fixed (terminals.Keyword words.ValidTo)) = Some (items.ValidTo at)
item_by at _ = None

abbrev pub as_item : Placed → Option Item
as_item p = item_by p.at p.token

-- the kind of columns that the token is
abbrev pub kind_by : Token → Option ColumnKind
kind_by (Fixed (terminals.Keyword words.Int)) = Some kinds.IntKind
kind_by (Fixed (terminals.Keyword words.Text)) = Some kinds.TextKind
kind_by _ = None

abbrev pub as_kind : Placed → Option ColumnKind
as_kind p = kind_by p.token

-- the comparison that the token is, and its offset
abbrev pub cmp_by : Token → Option Cmp
cmp_by (Fixed terminals.Equal) = Some cmps.Eq
cmp_by (Fixed terminals.Unequal) = Some cmps.Ne
cmp_by (Fixed terminals.Less) = Some cmps.Lt
cmp_by (Fixed terminals.AtMost) = Some cmps.Le
cmp_by (Fixed terminals.Greater) = Some cmps.Gt
cmp_by (Fixed terminals.AtLeast) = Some cmps.Ge
cmp_by _ = None

abbrev pub as_cmp : Placed → Option (Cmp × ℕ)
as_cmp p = option_map (λ c. (c, p.at)) (cmp_by p.token)

-- the kind of aggregates that the token is
abbrev pub agg_by : Token → Option AggKind
agg_by (Fixed (terminals.Keyword words.Count)) = Some aggs.Count
agg_by (Fixed (terminals.Keyword words.Sum)) = Some aggs.Sum
agg_by (Fixed (terminals.Keyword words.Avg)) = Some aggs.Avg
agg_by (Fixed (terminals.Keyword words.Min)) = Some aggs.Min
agg_by (Fixed (terminals.Keyword words.Max)) = Some aggs.Max
agg_by _ = None

abbrev pub as_agg : Placed → Option AggKind
as_agg p = agg_by p.token

-- the offset of VALID, where the token is VALID
abbrev pub valid_by : ℕ → Token → Option ℕ
valid_by at (Fixed (terminals.Keyword words.Valid)) = Some at
valid_by at _ = None

abbrev pub as_valid : Placed → Option ℕ
as_valid p = valid_by p.at p.token

-- the first token, which has to be there, and the tokens after it
abbrev pub first_token : List Placed → Result (Placed × List Placed) (Option ℕ)
first_token [] = Err None
first_token (p ∷ ts) = Ok (p, ts)

-- what the first token is, which has to be something
unfoldable pub take_at : {A : Type 0} → (Placed → Option A) → List Placed
    → Result (A × List Placed) (Option ℕ)
take_at take ts =
    first_token ts >>= λ p. where_some (take p.0) (Err (Some p.0.at)) (λ x. Ok (x, p.1))

-- what the first token is, if it is something
unfoldable pub peek_at : {A : Type 0} → (Placed → Option A) → List Placed → Option (A × List Placed)
peek_at take [] = None
peek_at take (p ∷ ts) = option_map (λ x. (x, ts)) (take p)

-- the tokens after this terminal, where it comes first
unfoldable pub after : Terminal → List Placed → Option (List Placed)
after m [] = None
after m (p ∷ ts) = if is_fixed m p.token then Some ts else None

-- the tokens after this terminal, which has to come first
unfoldable pub expect : Terminal → List Placed → Result (List Placed) (Option ℕ)
expect m ts = where_some (after m ts) (Err (first_offset ts)) (λ rest. Ok rest)

-- the statement, where no token is left
unfoldable pub last_of : Statement → List Placed → Result Statement (Option ℕ)
last_of s [] = Ok s
last_of s (p ∷ ts) = Err (Some p.at)

-- the statement, where a `;` or nothing is left
unfoldable pub statement_end : Statement → List Placed → Result Statement (Option ℕ)
statement_end s ts = where_some (after terminals.Semicolon ts) (last_of s ts) (last_of s)

-- LISTS

-- a value before those that are read
abbrev pub with_first : {A : Type 0} → A → Result (List A × List Placed) (Option ℕ)
    → Result (List A × List Placed) (Option ℕ)
with_first x read = read >>= λ y. Ok (x ∷ y.0, y.1)

-- a list before what is read
abbrev pub before : {A : Type 0} → List A → Result (List A × List Placed) (Option ℕ)
    → Result (List A × List Placed) (Option ℕ)
before xs read = read >>= λ y. Ok (xs ++ y.0, y.1)

-- up to so many values, each after this terminal
unfoldable pub up_to : {A : Type 0} → Terminal → (List Placed → Result (A × List Placed) (Option ℕ))
    → ℕ → List Placed → Result (List A × List Placed) (Option ℕ)
up_to m one zero ts = Ok ([], ts)
up_to m one (suc room) ts =
    where_some (after m ts) (Ok ([], ts))
    (λ rest. one rest >>= λ x. with_first x.0 (up_to m one room x.1))

-- values, each after this terminal: there are no more of them than tokens
abbrev pub further : {A : Type 0} → Terminal → (List Placed → Result (A × List Placed) (Option ℕ))
    → List Placed → Result (List A × List Placed) (Option ℕ)
further m one ts = up_to m one (length ts) ts

-- one or more values, separated by this terminal
unfoldable pub several : {A : Type 0} → Terminal
    → (List Placed → Result (A × List Placed) (Option ℕ)) → List Placed
    → Result (List A × List Placed) (Option ℕ)
several m one ts = one ts >>= λ x. with_first x.0 (further m one x.1)

-- PRODUCTIONS

-- a column
unfoldable pub column_at : List Placed → Result (ColumnForm × List Placed) (Option ℕ)
column_at ts = do
  name ← take_at as_name ts
  kind ← take_at as_kind name.1
  Ok (record { name = name.0; kind = kind.0 }, kind.1)

-- 1 to 16 columns
unfoldable pub columns_at : List Placed → Result (List ColumnForm × List Placed) (Option ℕ)
columns_at ts = do
  first ← column_at ts
  with_first first.0 (up_to terminals.Comma column_at 15 first.1)

-- whether VALID comes
unfoldable pub valid_at : List Placed → Result (Bool × List Placed) (Option ℕ)
valid_at ts =
    where_some (after (terminals.Keyword words.Valid) ts) (Ok (false, ts)) (λ rest. Ok (true, rest))

-- what follows CREATE
unfoldable pub create_at : List Placed → Result Statement (Option ℕ)
create_at ts = do
  table ← expect (terminals.Keyword words.Table) ts
  name ← take_at as_name table
  first ← expect terminals.Open name.1
  columns ← columns_at first
  close ← expect terminals.Close columns.1
  word ← expect (terminals.Keyword words.Key) close
  key ← take_at as_name word
  valid ← valid_at key.1
  statement_end (statements.Create
      (record { name = name.0; columns = columns.0; key = key.0; valid = valid.0 })) valid.1

-- what follows PUT
unfoldable pub put_at : List Placed → Result Statement (Option ℕ)
put_at ts = do
  name ← take_at as_name ts
  statement_end (statements.Put name.0) name.1

-- what follows REMOVE
unfoldable pub remove_at : List Placed → Result Statement (Option ℕ)
remove_at ts = do
  name ← take_at as_name ts
  statement_end (statements.Remove name.0) name.1

-- items, separated by commas
abbrev pub items_at : List Placed → Result (List Item × List Placed) (Option ℕ)
items_at ts = several terminals.Comma (take_at as_item) ts

-- what is asked for: whether it is all, and items
unfoldable pub asked_at : List Placed → Result ((Bool × List Item) × List Placed) (Option ℕ)
asked_at ts =
    where_some (after terminals.Star ts) (items_at ts >>= λ x. Ok ((false, x.0), x.1))
    (λ rest. Ok ((true, []), rest))

-- a test
unfoldable pub test_at : List Placed → Result (Test × List Placed) (Option ℕ)
test_at ts = do
  column ← take_at as_name ts
  cmp ← take_at as_cmp column.1
  value ← take_at as_constant cmp.1
  Ok (
    record {
      column = column.0;
      cmp = cmp.0.0;
      cmp_at = cmp.0.1;
      value = value.0.0;
      value_at = value.0.1;
    },
    value.1,
  )

-- tests, separated by AND
abbrev pub conj_at : List Placed → Result (List Test × List Placed) (Option ℕ)
conj_at ts = several (terminals.Keyword words.And) test_at ts

-- which rows, where WHERE comes
unfoldable pub where_at : List Placed → Result (Pred × List Placed) (Option ℕ)
where_at ts =
    where_some (after (terminals.Keyword words.Where) ts) (Ok (record { any = [] }, ts))
    (λ rest. several (terminals.Keyword words.Or) conj_at rest
    >>= λ any. Ok (record { any = any.0 }, any.1))

-- the valid time after VALID AT, where VALID comes
unfoldable pub valid_point_at : List Placed → Result (Option ValidPoint × List Placed) (Option ℕ)
valid_point_at ts =
    where_some (peek_at as_valid ts) (Ok (None, ts))
    (λ valid. expect (terminals.Keyword words.At) valid.1 >>= λ rest. take_at as_moment rest
    >>= λ value. Ok (Some (record { pos = valid.0; value = value.0 }), value.1))

-- a version, or a moment after MOMENT
unfoldable pub version_or_moment_at : List Placed → Result (AsOf × List Placed) (Option ℕ)
version_or_moment_at ts =
    where_some (peek_at (as_soft soft.Moment) ts)
    (take_at as_version ts >>= λ s. Ok (as_ofs.Version s.0, s.1))
    (λ word. take_at as_number word.1 >>= λ s. Ok (as_ofs.Moment s.0, s.1))

-- the version or the moment after AS OF, where AS comes
unfoldable pub as_of_at : List Placed → Result (Option AsOf × List Placed) (Option ℕ)
as_of_at ts =
    where_some (after (terminals.Keyword words.As) ts) (Ok (None, ts))
    (λ rest. expect (terminals.Keyword words.Of) rest >>= λ next. version_or_moment_at next
    >>= λ x. Ok (Some x.0, x.1))

-- what follows SELECT
unfoldable pub parse_select : List Placed → Result Statement (Option ℕ)
parse_select ts = do
  asked ← asked_at ts
  from ← expect (terminals.Keyword words.From) asked.1
  table ← take_at as_name from
  pred ← where_at table.1
  valid ← valid_point_at pred.1
  as_of ← as_of_at valid.1
  statement_end (statements.Ask
      (queries.Select (record {
        all = asked.0.0;
        items = asked.0.1;
        table = table.0;
        pred = pred.0;
        valid_at = valid.0;
        as_of = as_of.0;
      }))) as_of.1

-- the versions after SYSTEM: a first one and the end
unfoldable pub versions_at : List Placed → Result (Over × List Placed) (Option ℕ)
versions_at ts = do
  from ← take_at as_version ts
  word ← expect (terminals.Keyword words.To) from.1
  to ← take_at as_version word
  Ok (overs.System from.0 to.0, to.1)

-- what follows OVER SYSTEM
unfoldable pub system_at : List Placed → Result (Over × List Placed) (Option ℕ)
system_at ts =
    where_some (after (terminals.Keyword words.All) ts) (versions_at ts)
    (λ rest. Ok (overs.SystemAll, rest))

-- what follows OVER, where SYSTEM does not
unfoldable pub moments_at : List Placed → Result (Over × List Placed) (Option ℕ)
moments_at ts = do
  valid ← take_at as_valid ts
  from ← take_at as_bound valid.1
  word ← expect (terminals.Keyword words.To) from.1
  to ← take_at as_bound word
  as_of ← as_of_at to.1
  Ok (overs.Valid valid.0 from.0 to.0 as_of.0, as_of.1)

-- the range after OVER, which has to come
unfoldable pub over_at : List Placed → Result (Over × List Placed) (Option ℕ)
over_at ts =
    expect (terminals.Keyword words.Over) ts
    >>= λ rest. where_some (after (terminals.Keyword words.System) rest) (moments_at rest) system_at

-- the column of an aggregate: a count has none
unfoldable pub column_name_at : AggKind → List Placed
    → Result (Option Name × List Placed) (Option ℕ)
column_name_at aggs.Count ts = Ok (None, ts)
column_name_at _ ts = take_at as_name ts >>= λ name. Ok (Some name.0, name.1)

-- the column of the groups, where BY comes
unfoldable pub by_at : List Placed → Result (Option Name × List Placed) (Option ℕ)
by_at ts =
    where_some (after (terminals.Keyword words.By) ts) (Ok (None, ts))
    (λ rest. take_at as_name rest >>= λ name. Ok (Some name.0, name.1))

-- an aggregate, by its first word on
unfoldable pub agg_at : List Placed → Result Statement (Option ℕ)
agg_at ts = do
  kind ← take_at as_agg ts
  column ← column_name_at kind.0 kind.1
  from ← expect (terminals.Keyword words.From) column.1
  table ← take_at as_name from
  pred ← where_at table.1
  by ← by_at pred.1
  over ← over_at by.1
  statement_end (statements.Ask
      (queries.Agg (record {
        kind = kind.0;
        column = column.0;
        table = table.0;
        pred = pred.0;
        by = by.0;
        over = over.0;
      }))) over.1

-- a table's name, and which of its rows
unfoldable pub side_at : List Placed → Result ((Name × Pred) × List Placed) (Option ℕ)
side_at ts = do
  table ← take_at as_name ts
  pred ← where_at table.1
  Ok ((table.0, pred.0), pred.1)

-- the two columns after ON, which has to come
unfoldable pub on_at : List Placed → Result ((Name × Name) × List Placed) (Option ℕ)
on_at ts = do
  word ← expect (terminals.Keyword words.On) ts
  left ← take_at as_name word
  equal ← expect terminals.Equal left.1
  right ← take_at as_name equal
  Ok ((left.0, right.0), right.1)

-- what follows JOIN
unfoldable pub join_at : List Placed → Result Statement (Option ℕ)
join_at ts = do
  left ← side_at ts
  word ← expect (terminals.Keyword words.With) left.1
  right ← side_at word
  on ← on_at right.1
  over ← over_at on.1
  statement_end (statements.Ask
      (queries.Join (record {
        left = left.0.0;
        left_pred = left.0.1;
        right = right.0.0;
        right_pred = right.0.1;
        left_on = on.0.0;
        right_on = on.0.1;
        over = over.0;
      }))) over.1

-- what follows MOMENT
unfoldable pub moment_stated_at : List Placed → Result Statement (Option ℕ)
moment_stated_at ts = do
  moment ← take_at as_number ts
  statement_end (statements.Moment moment.0) moment.1

-- what follows FORGET
unfoldable pub forget_at : List Placed → Result Statement (Option ℕ)
forget_at ts = do
  table ← take_at as_name ts
  word ← take_at (as_soft soft.Before) table.1
  floor ← take_at as_version word.1
  statement_end (statements.Forget table.0 floor.0) floor.1

-- what follows SYNC
unfoldable pub sync_at : List Placed → Result Statement (Option ℕ)
sync_at ts = do
  name ← take_at as_name ts
  statement_end (statements.Sync name.0) name.1

-- a statement that begins with SYNC, or an aggregate
abbrev pub agg_or_sync_at : List Placed → Result Statement (Option ℕ)
agg_or_sync_at ts =
    where_some (peek_at (as_soft soft.Sync) ts) (agg_at ts) (λ word. sync_at word.1)

-- a statement that begins with FORGET or SYNC, or an aggregate
abbrev pub agg_or_forget_at : List Placed → Result Statement (Option ℕ)
agg_or_forget_at ts =
    where_some (peek_at (as_soft soft.Forget) ts) (agg_or_sync_at ts) (λ word. forget_at word.1)

-- a statement that begins with MOMENT, FORGET or SYNC, or an aggregate
unfoldable pub agg_or_soft_at : List Placed → Result Statement (Option ℕ)
agg_or_soft_at ts =
    where_some (peek_at (as_soft soft.Moment) ts) (agg_or_forget_at ts)
    (λ word. moment_stated_at word.1)

-- the statement that the tokens spell, or where reading it stops
unfoldable pub statement_at : List Placed → Result Statement (Option ℕ)
statement_at ts =
    where_some (after (terminals.Keyword words.Create) ts) (
    where_some (after (terminals.Keyword words.Put) ts) (
    where_some (after (terminals.Keyword words.Remove) ts) (
    where_some (after (terminals.Keyword words.Select) ts) (
    where_some (after (terminals.Keyword words.Join) ts) (
    agg_or_soft_at ts) join_at) parse_select) remove_at) put_at) create_at
