-- The column of an aggregate that suits a schema, and that a count has none.
use Rattle.std.proofs.Common.{◌≡◌, ℕ, true, Option, Some, None, refl, ap, sym, ◌∙◌}
use Rattle.tl_types.specs.declared.cells.ColumnKind.{ColumnKind}
use Rattle.tl_types.specs.declared.cells.ColumnKind.TheVariants.{IntKind, TextKind}
use Rattle.tl_types.specs.Plain as plain
use Rattle.tl_query.specs.declared.ast.AggKind.{AggKind}
use Rattle.tl_query.specs.declared.ast.AggKind.TheVariants as kind
use Rattle.tl_query.specs.TypedFor.{is_typed_aggregate, is_int_column, is_int_kind, kind_at}

int_kind : (o : Option ColumnKind) → is_int_kind o ≡ true → o ≡ Some IntKind
int_kind None h = absurd (cc)
int_kind (Some IntKind) h = refl
int_kind (Some TextKind) h = absurd (cc)

int_column : (schema : plain.Schema) (column : Option ℕ) (c : ℕ) → is_int_column schema column ≡ true → column ≡ Some c → kind_at schema c ≡ Some IntKind
int_column schema None c h is = absurd (cc)
int_column schema (Some d) c h is = let e : d ≡ c = cc in ap (kind_at schema) (sym e) ∙ int_kind (kind_at schema d) h

-- the column that is aggregated holds numbers
pub agg_column : (schema : plain.Schema) (k : AggKind) (column : Option ℕ) (c : ℕ) → is_typed_aggregate schema k column ≡ true → column ≡ Some c → kind_at schema c ≡ Some IntKind
agg_column schema kind.Count None c h is = absurd (cc)
agg_column schema kind.Count (Some d) c h is = absurd (cc)
agg_column schema kind.Sum column c h is = int_column schema column c h is
agg_column schema kind.Avg column c h is = int_column schema column c h is
agg_column schema kind.Min column c h is = int_column schema column c h is
agg_column schema kind.Max column c h is = int_column schema column c h is

-- a count has none
pub agg_count : (schema : plain.Schema) (k : AggKind) (column : Option ℕ) → is_typed_aggregate schema k column ≡ true → column ≡ None → k ≡ kind.Count
agg_count schema kind.Count column h is = refl
agg_count schema kind.Sum None h is = absurd (cc)
agg_count schema kind.Sum (Some c) h is = absurd (cc)
agg_count schema kind.Avg None h is = absurd (cc)
agg_count schema kind.Avg (Some c) h is = absurd (cc)
agg_count schema kind.Min None h is = absurd (cc)
agg_count schema kind.Min (Some c) h is = absurd (cc)
agg_count schema kind.Max None h is = absurd (cc)
agg_count schema kind.Max (Some c) h is = absurd (cc)
