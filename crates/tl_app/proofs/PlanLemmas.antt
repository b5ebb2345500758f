-- The plan of a checked query suits its table.
use Rattle.std.proofs.Common.{◌≡◌, ℕ, ◌<◌, ℤ, Bool, true, false, ◌&&◌, nat_le, nat_lt, int_lt, length, Option, Some, None, refl, sym, ap, ◌∙◌, arith, subst, slice_get}
use Rattle.std.specs.Prelude.{option_map}
use Rattle.std.proofs.lemmas.Bool.Decides.{nat_tests}
use Rattle.tl_types.specs.declared.cells.ColumnKind.{ColumnKind}
use Rattle.tl_types.specs.declared.cells.ColumnKind.TheVariants.{IntKind, TextKind}
use Rattle.tl_types.specs.declared.schemas.Column.{Column}
use Rattle.tl_types.specs.Plain as plain
use Rattle.tl_query.specs.TypedFor.{IsTypedFor, is_int_kind, is_int_column, is_typed_aggregate, is_typed_group, is_typed_pred, is_typed_agg}
use Rattle.tl_query.specs.declared.ast.AggKind.{AggKind}
use Rattle.tl_query.specs.declared.ast.AggKind.TheVariants as kind
use Rattle.tl_query.specs.declared.typed_queries.Typed.TheVariants as typed
use Rattle.tl_query.specs.declared.typed_queries.TypedPred.{TypedPred}
use Rattle.tl_query.specs.declared.typed_queries.Span.TheVariants as span
use Rattle.tl_store.specs.Reading.{has_periods_table, columns_of_table, IsIntColumn}
use Rattle.tl_app.specs.Scans.{plan_of, IsValidTimePlanFor}

parts_of : (a b c d e f : Bool) → (((a && b) && c) && ((d && e) && f)) ≡ true → (a ≡ true) × (b ≡ true) × (d ≡ true)
parts_of true true true true e f h = (refl, refl, refl)
parts_of true true true false e f h = absurd (cc)
parts_of true true false d e f h = absurd (cc)
parts_of true false c d e f h = absurd (cc)
parts_of false b c d e f h = absurd (cc)

int_kind : (k : Option ColumnKind) → is_int_kind k ≡ true → k ≡ Some IntKind
int_kind None h = absurd (cc)
int_kind (Some IntKind) h = refl
int_kind (Some TextKind) h = absurd (cc)

int_column : (schema : plain.Schema) (column : Option ℕ) → is_int_column schema column ≡ true → (c : ℕ) → column ≡ Some c → option_map (λ (x : Column). x.kind) (slice_get schema.columns c) ≡ Some IntKind
int_column schema None h c is = absurd (cc)
int_column schema (Some d) h c is = int_kind (option_map (λ (x : Column). x.kind) (slice_get schema.columns c)) (subst (λ (o : Option ℕ). is_int_column schema o ≡ true) is h)

column_of : (schema : plain.Schema) (k : AggKind) (column : Option ℕ) → is_typed_aggregate schema k column ≡ true → (c : ℕ) → column ≡ Some c → option_map (λ (x : Column). x.kind) (slice_get schema.columns c) ≡ Some IntKind
column_of schema kind.Count None h c is = absurd (cc)
column_of schema kind.Count (Some d) h c is = absurd (cc)
column_of schema kind.Sum column h c is = int_column schema column h c is
column_of schema kind.Avg column h c is = int_column schema column h c is
column_of schema kind.Min column h c is = int_column schema column h c is
column_of schema kind.Max column h c is = int_column schema column h c is

count_of : (schema : plain.Schema) (k : AggKind) (column : Option ℕ) → is_typed_aggregate schema k column ≡ true → column ≡ None → k ≡ kind.Count
count_of schema kind.Count column h is = refl
count_of schema kind.Sum column h is = absurd (let f = subst (λ (o : Option ℕ). is_int_column schema o ≡ true) is h in cc)
count_of schema kind.Avg column h is = absurd (let f = subst (λ (o : Option ℕ). is_int_column schema o ≡ true) is h in cc)
count_of schema kind.Min column h is = absurd (let f = subst (λ (o : Option ℕ). is_int_column schema o ≡ true) is h in cc)
count_of schema kind.Max column h is = absurd (let f = subst (λ (o : Option ℕ). is_int_column schema o ≡ true) is h in cc)

group_of : (schema : plain.Schema) (by : Option ℕ) → is_typed_group schema by ≡ true → (c : ℕ) → by ≡ Some c → c < length schema.columns
group_of schema None h c is = absurd (cc)
group_of schema (Some d) h c is = let g = subst (λ (o : Option ℕ). is_typed_group schema o ≡ true) is h in below c (length schema.columns) g where
  below : (c n : ℕ) → nat_lt c n ≡ true → c < n
  below c n g = grind (arith, nat_tests)

pub plan_suits : (db : plain.Database) (table : ℕ) (k : AggKind) (column by : Option ℕ) (pred : TypedPred) (version : ℕ) (from to : ℤ) → IsTypedFor db (typed.Agg table k column by pred (span.Valid version from to)) → IsValidTimePlanFor db (plan_of table k column by)
plan_suits db table k column by pred version from to typed_is = by_table (slice_get db.tables table) refl typed_is where
  by_table : (o : Option plain.Table) → slice_get db.tables table ≡ o → is_typed_agg db.version k column by pred (span.Valid version from to) (option_map (λ (t : plain.Table). t.schema) o) ≡ true → IsValidTimePlanFor db (plan_of table k column by)
  by_table None is h = absurd (cc)
  by_table (Some t) is h =
      let parts = parts_of (is_typed_aggregate t.schema k column) (is_typed_group t.schema by) (is_typed_pred t.schema pred) t.schema.valid (nat_le version db.version) (int_lt from to) h in record {
        valid = ap has_periods_table is ∙ parts.2;
        column = λ c at. subst (λ cs. IsIntColumn cs c) (sym (ap columns_of_table is)) (column_of t.schema k column parts.0 c at);
        kind = count_of t.schema k column parts.0;
        by = λ c at. subst (λ cs. c < length cs) (sym (ap columns_of_table is)) (group_of t.schema by parts.1 c at);
      }
