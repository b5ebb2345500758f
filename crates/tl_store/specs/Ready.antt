-- Tests of a column that were made ready.
use Rattle.std.specs.Prelude.{ℕ, Bool, true, false, List, map}
use Rattle.tl_types.specs.declared.cells.Cell.{Cell}
use Rattle.tl_types.specs.declared.cells.Cell.TheVariants as cell
use Rattle.tl_types.specs.declared.cells.Cmp.{Cmp}
use Rattle.tl_types.specs.declared.cells.Cmp.TheVariants as cmp
use Rattle.tl_query.specs.declared.typed_queries.TypedTest.{TypedTest}
use Rattle.tl_lanes.specs.Masks.{passes}
use Rattle.tl_column.specs.Dictionary.{dictionary_of}
use Rattle.tl_column.specs.Masks.{lane_cmp, has_code}
use Rattle.tl_store.specs.declared.columns.ColumnData.{ColumnData}
use Rattle.tl_store.specs.declared.columns.ColumnData.TheVariants as held
use Rattle.tl_store.specs.declared.ready.Asked.{Asked}
use Rattle.tl_store.specs.declared.ready.Asked.TheVariants as asked

-- of which cells of a column what is asked is so
abbrev pub passing : ColumnData → Asked → List Bool
passing (held.Ints numbers) (asked.Number c bound) = map (λ x. passes (lane_cmp c) x bound) numbers
passing (held.Ints numbers) (asked.Code equal code) = map (λ x. false) numbers
passing (held.Ints numbers) asked.Other = map (λ x. false) numbers
passing (held.Texts texts) (asked.Number c bound) = map (λ x. false) texts
passing (held.Texts texts) (asked.Code equal code) =
    map (has_code equal (dictionary_of texts) code) texts
passing (held.Texts texts) asked.Other = map (λ x. false) texts

-- what a test asks of numbers whose constant is this cell
abbrev pub number_asked_by : Cmp → Cell → Asked
number_asked_by c (cell.Int bound) = asked.Number c bound
number_asked_by c (cell.Text text) = asked.Other

-- what a test asks of numbers
abbrev pub number_asked : TypedTest → Asked
number_asked test = number_asked_by test.cmp test.value

-- what a comparison with a text asks, whose code this is
abbrev pub code_asked : Cmp → ℕ → Asked
code_asked cmp.Eq code = asked.Code true code
code_asked cmp.Ne code = asked.Code false code
code_asked cmp.Lt code = asked.Other
code_asked cmp.Le code = asked.Other
code_asked cmp.Gt code = asked.Other
code_asked cmp.Ge code = asked.Other

-- what a comparison with a cell asks of texts with these codes
abbrev pub text_asked_by : (List ℕ → ℕ) → Cmp → Cell → Asked
text_asked_by codes c (cell.Int bound) = asked.Other
text_asked_by codes c (cell.Text text) = code_asked c (codes text)

-- what a test asks of texts with these codes
abbrev pub text_asked : (List ℕ → ℕ) → TypedTest → Asked
text_asked codes test = text_asked_by codes test.cmp test.value
