-- How a statement is written as a text, and a statement but for its offsets.
use Rattle.std.specs.Prelude.{ℕ, ℤ, Bool, true, false, ◌||◌, ◌==◌, if◌then◌else◌, List, [], ◌∷◌, ◌++◌, map}
use Rattle.std.specs.Option.{option_map}
use Rattle.std.specs.Ordering.{int_eq}
use Rattle.std.specs.Fmt.{signed_decimal}
use Rattle.tl_types.specs.Plain as plain
use Rattle.tl_types.specs.declared.cells.Cell.{Cell}
use Rattle.tl_types.specs.declared.cells.Cell.TheVariants as cells
use Rattle.tl_query.specs.declared.terminals.Terminal.{Terminal}
use Rattle.tl_types.specs.declared.keywords.Keyword.TheVariants as words
use Rattle.tl_query.specs.declared.terminals.Terminal.TheVariants as terminals
use Rattle.tl_query.specs.declared.ast.Name.{Name}
use Rattle.tl_query.specs.declared.ast.Stamp.{Stamp}
use Rattle.tl_query.specs.declared.ast.ColumnForm.{ColumnForm}
use Rattle.tl_query.specs.declared.ast.CreateForm.{CreateForm}
use Rattle.tl_query.specs.declared.ast.SelectForm.{SelectForm}
use Rattle.tl_query.specs.declared.ast.AggForm.{AggForm}
use Rattle.tl_query.specs.declared.ast.JoinForm.{JoinForm}
use Rattle.tl_query.specs.declared.ast.AsOf.{AsOf}
use Rattle.tl_query.specs.declared.ast.AsOf.TheVariants as as_ofs
use Rattle.tl_query.specs.declared.ast.Over.{Over}
use Rattle.tl_query.specs.declared.ast.Over.TheVariants as overs
use Rattle.tl_query.specs.declared.ast.Pred.{Pred}
use Rattle.tl_query.specs.declared.ast.Test.{Test}
use Rattle.tl_query.specs.declared.ast.ValidPoint.{ValidPoint}
use Rattle.tl_query.specs.declared.ast.Item.{Item}
use Rattle.tl_query.specs.declared.ast.Item.TheVariants as items
use Rattle.tl_query.specs.declared.ast.Query.TheVariants as queries
use Rattle.tl_query.specs.declared.ast.Statement.{Statement}
use Rattle.tl_query.specs.declared.ast.Statement.TheVariants as statements
use Rattle.tl_query.specs.Terminals.{same_terminal, soft_spelling, spelling}
use Rattle.tl_query.specs.Grammar.{Part, terminal, terminal_at, said, identifier, version, moment, number, bound, constant, statement_parts}

-- THE TEXT

-- two quotes for one
abbrev pub double_quotes : List ℕ → List ℕ
double_quotes [] = []
double_quotes (b ∷ bytes) =
    if b == 39 then 39 ∷ 39 ∷ double_quotes bytes else b ∷ double_quotes bytes

-- a text constant
abbrev pub text_constant : List ℕ → List ℕ
text_constant text = 39 ∷ (double_quotes text ++ (39 ∷ []))

-- a constant
abbrev pub cell_text : Cell → List ℕ
cell_text (cells.Int n) = signed_decimal n
cell_text (cells.Text t) = text_constant t

-- what is written of a part, and whether it is `(`, after which no space stands, or `)` or `,`,
-- before which no space stands
pub record Word : Type 0 where
  pub text : List ℕ
  pub opens : Bool
  pub closes : Bool

-- a keyword or symbol
abbrev pub terminal_word : Terminal → Word
terminal_word m = record {
  text = spelling m;
  opens = same_terminal m terminals.Open;
  closes = same_terminal m terminals.Close || same_terminal m terminals.Comma;
}

-- anything else
abbrev pub plain_word : List ℕ → Word
plain_word text = record { text = text; opens = false; closes = false }

-- a bound: the last valid time is written FOREVER
abbrev pub bound_word : ℤ → Word
bound_word v =
    if int_eq v plain.forever then terminal_word (terminals.Keyword words.Forever) else plain_word
    (signed_decimal v)

-- what is written of a part
abbrev pub word_of : Part → Word
word_of (terminal m) = terminal_word m
word_of (terminal_at m at) = terminal_word m
word_of (said w) = plain_word (soft_spelling w)
word_of (identifier n) = plain_word n.text
word_of (version s) = plain_word (signed_decimal s.value)
word_of (moment v) = plain_word (signed_decimal v)
word_of (number s) = plain_word (signed_decimal s.value)
word_of (bound s) = bound_word s.value
word_of (constant c at) = plain_word (cell_text c)

-- what is written so far, and whether the next part follows it with no space
pub record Written : Type 0 where
  pub bytes : List ℕ
  pub tight : Bool

-- one space, or none
abbrev pub gap : Bool → List ℕ
gap tight = if tight then [] else 32 ∷ []

-- a word more: its text after one space, or after none
unfoldable pub put : Written → Word → Written
put w q = record { bytes = w.bytes ++ (gap (w.tight || q.closes) ++ q.text); tight = q.opens }

-- parts more
abbrev pub write : Written → List Part → Written
write w [] = w
write w (q ∷ parts) = write (put w (word_of q)) parts

-- nothing
abbrev pub nothing : Written
nothing = record { bytes = []; tight = true }

-- The text of a statement: its parts, with one space between two of them, but none after `(`,
-- before `)` and before `,`.
abbrev pub text_of : Statement → List ℕ
text_of s = (write nothing (statement_parts s)).bytes

-- BUT FOR OFFSETS

abbrev pub unplaced_name : Name → Name
unplaced_name n = record { text = n.text; at = 0 }

abbrev pub unplaced_stamp : Stamp → Stamp
unplaced_stamp s = record { value = s.value; at = 0 }

abbrev pub unplaced_as_of : AsOf → AsOf
unplaced_as_of (as_ofs.Version s) = as_ofs.Version (unplaced_stamp s)
unplaced_as_of (as_ofs.Moment s) = as_ofs.Moment (unplaced_stamp s)

abbrev pub unplaced_column : ColumnForm → ColumnForm
unplaced_column c = record { name = unplaced_name c.name; kind = c.kind }

abbrev pub unplaced_item : Item → Item
unplaced_item (items.Column n) = items.Column (unplaced_name n)
unplaced_item (items.ValidFrom at) = items.ValidFrom 0
unplaced_item (items.ValidTo at) = items.ValidTo 0

abbrev pub unplaced_test : Test → Test
unplaced_test t =
    record {
      column = unplaced_name t.column;
      cmp = t.cmp;
      cmp_at = 0;
      value = t.value;
      value_at = 0;
    }

abbrev pub unplaced_pred : Pred → Pred
unplaced_pred p = record { any = map (λ tests. map unplaced_test tests) p.any }

abbrev pub unplaced_point : ValidPoint → ValidPoint
unplaced_point v = record { pos = 0; value = v.value }

abbrev pub unplaced_over : Over → Over
unplaced_over overs.SystemAll = overs.SystemAll
unplaced_over (overs.System from to) = overs.System (unplaced_stamp from) (unplaced_stamp to)
unplaced_over (overs.Valid at from to as_of) =
    overs.Valid 0 (unplaced_stamp from) (unplaced_stamp to) (option_map unplaced_as_of as_of)

abbrev pub unplaced_create : CreateForm → CreateForm
unplaced_create f =
    record {
      name = unplaced_name f.name;
      columns = map unplaced_column f.columns;
      key = unplaced_name f.key;
      valid = f.valid;
    }

abbrev pub unplaced_select : SelectForm → SelectForm
unplaced_select f =
    record {
      all = f.all;
      items = map unplaced_item f.items;
      table = unplaced_name f.table;
      pred = unplaced_pred f.pred;
      valid_at = option_map unplaced_point f.valid_at;
      as_of = option_map unplaced_as_of f.as_of;
    }

abbrev pub unplaced_agg : AggForm → AggForm
unplaced_agg f =
    record {
      kind = f.kind;
      column = option_map unplaced_name f.column;
      table = unplaced_name f.table;
      pred = unplaced_pred f.pred;
      by = option_map unplaced_name f.by;
      over = unplaced_over f.over;
    }

abbrev pub unplaced_join : JoinForm → JoinForm
unplaced_join f = record {
  left = unplaced_name f.left;
  left_pred = unplaced_pred f.left_pred;
  right = unplaced_name f.right;
  right_pred = unplaced_pred f.right_pred;
  left_on = unplaced_name f.left_on;
  right_on = unplaced_name f.right_on;
  over = unplaced_over f.over;
}

-- the statement with each offset 0: what it is but for its offsets
abbrev pub without_offsets : Statement → Statement
without_offsets (statements.Create f) = statements.Create (unplaced_create f)
without_offsets (statements.Put n) = statements.Put (unplaced_name n)
without_offsets (statements.Remove n) = statements.Remove (unplaced_name n)
without_offsets (statements.Sync n) = statements.Sync (unplaced_name n)
without_offsets (statements.Ask (queries.Select f)) =
    statements.Ask (queries.Select (unplaced_select f))
without_offsets (statements.Ask (queries.Agg f)) = statements.Ask (queries.Agg (unplaced_agg f))
without_offsets (statements.Ask (queries.Join f)) = statements.Ask (queries.Join (unplaced_join f))
without_offsets (statements.Moment s) = statements.Moment (unplaced_stamp s)
without_offsets (statements.Forget n s) = statements.Forget (unplaced_name n) (unplaced_stamp s)
