-- What a join that suits a database has.
use Rattle.std.proofs.Common.{◌≡◌, ℕ, ◌+◌, ◌<◌, ◌≤◌, ℤ, int_lt, Bool, true, ◌&&◌, nat_lt, nat_le, length, Option, Some, None, slice_get, refl}
use Rattle.std.specs.Prelude.{option_map}
use Rattle.std.proofs.lemmas.Bool.{leb-true}
use Rattle.std.proofs.lemmas.Option.{slice_get_within}
use Rattle.tl_types.proofs.Lists.{and_left, and_right}
use Rattle.tl_types.specs.declared.cells.ColumnKind.{ColumnKind}
use Rattle.tl_types.specs.declared.cells.ColumnKind.TheVariants.{IntKind, TextKind}
use Rattle.tl_types.specs.declared.schemas.Column.{Column}
use Rattle.tl_types.specs.Plain as plain
use Rattle.tl_query.specs.declared.typed_queries.Span.{Span}
use Rattle.tl_query.specs.declared.typed_queries.Span.TheVariants as span
use Rattle.tl_query.specs.declared.typed_queries.Typed.TheVariants as typed
use Rattle.tl_query.specs.declared.typed_queries.TypedPred.{TypedPred}
use Rattle.tl_query.specs.TypedFor.{IsTypedFor, is_typed_join, is_typed_pred, is_typed_span, kind_at, same_kinds}
use Rattle.tl_store.specs.Reading.{columns_of, has_periods}
use Rattle.tl_filter.specs.Selecting.{IsTypedPredFor}

some_kind : (o p : Option ColumnKind) → same_kinds o p ≡ true → (k : ColumnKind) × (o ≡ Some k)
some_kind None p h = absurd (cc)
some_kind (Some IntKind) p h = (IntKind, refl)
some_kind (Some TextKind) p h = (TextKind, refl)

other_kind : (o p : Option ColumnKind) → same_kinds o p ≡ true → (k : ColumnKind) × (p ≡ Some k)
other_kind None p h = absurd (cc)
other_kind (Some k) None h = absurd (cc)
other_kind (Some k) (Some l) h = (l, refl)

-- a column that holds something is there
column_there : (schema : plain.Schema) (place : ℕ) (k : ColumnKind) → kind_at schema place ≡ Some k → place < length schema.columns
column_there schema place k h = by_column (slice_get schema.columns place) refl h where
  by_column : (o : Option Column) → slice_get schema.columns place ≡ o → option_map (λ (c : Column). c.kind) o ≡ Some k → place < length schema.columns
  by_column None e h = absurd (cc)
  by_column (Some c) e h = slice_get_within schema.columns place c e

-- what a join over a range has
pub record JoinFacts (db : plain.Database) (left : ℕ) (left_pred : TypedPred) (right : ℕ) (right_pred : TypedPred) (left_on right_on : ℕ) (over : Span) : Type 0 where
  pub left_there : left < length db.tables
  pub right_there : right < length db.tables
  pub left_column : left_on < length (columns_of db left)
  pub right_column : right_on < length (columns_of db right)
  pub left_typed : IsTypedPredFor db left left_pred
  pub right_typed : IsTypedPredFor db right right_pred
  pub span_typed : is_typed_span db.version (has_periods db left && has_periods db right) over ≡ true

pub join_facts : (db : plain.Database) (left : ℕ) (left_pred : TypedPred) (right : ℕ) (right_pred : TypedPred) (left_on right_on : ℕ) (over : Span)
    → IsTypedFor db (typed.Join left left_pred right right_pred left_on right_on over) → JoinFacts db left left_pred right right_pred left_on right_on over
join_facts db left left_pred right right_pred left_on right_on over h = by_tables (slice_get db.tables left) (slice_get db.tables right) refl refl h where
  by_tables : (o p : Option plain.Table) → slice_get db.tables left ≡ o → slice_get db.tables right ≡ p
      → is_typed_join db.version left_pred right_pred left_on right_on over (option_map (λ t. t.schema) o) (option_map (λ t. t.schema) p) ≡ true
      → JoinFacts db left left_pred right right_pred left_on right_on over
  by_tables None p e f h = absurd (cc)
  by_tables (Some t) None e f h = absurd (cc)
  by_tables (Some t) (Some u) e f h =
      let a = is_typed_pred t.schema left_pred in
      let b = is_typed_pred u.schema right_pred in
      let c = same_kinds (kind_at t.schema left_on) (kind_at u.schema right_on) in
      let d = is_typed_span db.version (t.schema.valid && u.schema.valid) over in
      let abc : (a && b && c) ≡ true = and_left (a && b && c) d h in
      let ab : (a && b) ≡ true = and_left (a && b) c abc in
      let kinds = and_right (a && b) c abc in
      let l = some_kind (kind_at t.schema left_on) (kind_at u.schema right_on) kinds in
      let r = other_kind (kind_at t.schema left_on) (kind_at u.schema right_on) kinds in
      record {
        left_there = slice_get_within db.tables left t e;
        right_there = slice_get_within db.tables right u f;
        left_column = rw e (column_there t.schema left_on l.0 l.1);
        right_column = rw f (column_there u.schema right_on r.0 r.1);
        left_typed = rw e (and_left a b ab);
        right_typed = rw f (and_right a b ab);
        span_typed = rw (e, f) (and_right (a && b && c) d h);
      }

-- over versions these are there
pub versions_there : (now : ℕ) (valid : Bool) (from to : ℕ) → is_typed_span now valid (span.System from to) ≡ true → to ≤ now + 1
versions_there now valid from to h = leb-true to (now + 1) (and_right (nat_lt from to) (nat_le to (now + 1)) h)

-- over valid time both tables have it, and the version is there
pub moments_there : (now version : ℕ) (a b : Bool) (from to : ℤ) → is_typed_span now (a && b) (span.Valid version from to) ≡ true → (a ≡ true) × (b ≡ true) × (version ≤ now)
moments_there now version a b from to h =
    let known = and_left (a && b && nat_le version now) (int_lt from to) h in
    let both = and_left (a && b) (nat_le version now) known in
    (and_left a b both, and_right a b both, leb-true version now (and_right (a && b) (nat_le version now) known))
