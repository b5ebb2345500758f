-- What an aggregate that suits a database has.
use Rattle.std.proofs.Common.{◌≡◌, ℕ, ◌+◌, ◌<◌, ◌≤◌, ◌<ℤ◌, ℤ, int_lt, Bool, true, ◌&&◌, nat_lt, nat_le, length, Option, Some, None, slice_get, refl, arith}
use Rattle.std.specs.Prelude.{option_map}
use Rattle.std.proofs.lemmas.Int.{ints}
use Rattle.std.proofs.lemmas.Bool.{ltb-true, leb-true}
use Rattle.std.proofs.lemmas.Option.{slice_get_within}
use Rattle.tl_types.proofs.Lists.{and_left, and_right}
use Rattle.tl_types.specs.Plain as plain
use Rattle.tl_query.specs.declared.ast.AggKind.{AggKind}
use Rattle.tl_query.specs.declared.typed_queries.AggPlan.{AggPlan}
use Rattle.tl_query.specs.declared.typed_queries.Span.{Span}
use Rattle.tl_query.specs.declared.typed_queries.Span.TheVariants as span
use Rattle.tl_query.specs.declared.typed_queries.Typed.TheVariants as typed
use Rattle.tl_query.specs.declared.typed_queries.TypedPred.{TypedPred}
use Rattle.tl_query.specs.TypedFor.{IsTypedFor, is_typed_agg, is_typed_aggregate, is_typed_group, is_typed_pred, is_typed_span}
use Rattle.tl_filter.specs.Selecting.{IsTypedPredFor}
use Rattle.tl_agg.specs.Scans.{IsSystemTimePlanFor}
use Rattle.tl_agg.proofs.TypedAggregates.{agg_column, agg_count}
use Rattle.tl_exec.specs.Pieces.{IsAskedOf}
use Rattle.tl_exec.specs.Moments.{IsAskedAt, IsAggFor}

agg_group : (schema : plain.Schema) (by : Option ℕ) (c : ℕ) → is_typed_group schema by ≡ true → by ≡ Some c → c < length schema.columns
agg_group schema None c h is = absurd (cc)
agg_group schema (Some d) c h is = let e : d ≡ c = cc in let l = ltb-true d (length schema.columns) h in omega arith

-- what an aggregate over a range has
pub record AggFacts (db : plain.Database) (table : ℕ) (k : AggKind) (column by : Option ℕ) (pred : TypedPred) (range : Span) : Type 0 where
  pub there : table < length db.tables
  pub suits : IsSystemTimePlanFor (record { db = db; number = table }) (record { table = table; kind = k; column = column; by = by })
  pub typed : IsTypedPredFor db table pred
  pub t : plain.Table
  pub found : slice_get db.tables table ≡ Some t
  pub span_typed : is_typed_span db.version t.schema.valid range ≡ true

pub agg_facts : (db : plain.Database) (table : ℕ) (k : AggKind) (column by : Option ℕ) (pred : TypedPred) (range : Span)
    → IsTypedFor db (typed.Agg table k column by pred range) → AggFacts db table k column by pred range
agg_facts db table k column by pred range h = by_table (slice_get db.tables table) refl h where
  by_table : (o : Option plain.Table) → slice_get db.tables table ≡ o → is_typed_agg db.version k column by pred range (option_map (λ t. t.schema) o) ≡ true → AggFacts db table k column by pred range
  by_table None e h = absurd (cc)
  by_table (Some t) e h =
      let a = is_typed_aggregate t.schema k column in
      let b = is_typed_group t.schema by in
      let c = is_typed_pred t.schema pred in
      let d = is_typed_span db.version t.schema.valid range in
      let abc : (a && b && c) ≡ true = and_left (a && b && c) d h in
      let ab : (a && b) ≡ true = and_left (a && b) c abc in
      record {
        there = slice_get_within db.tables table t e;
        suits = record {
          column = λ place is. rw e (agg_column t.schema k column place (and_left a b ab) is);
          kind = λ is. agg_count t.schema k column (and_left a b ab) is;
          by = λ place is. rw e (agg_group t.schema by place (and_right a b ab) is);
        };
        typed = rw e (and_right (a && b) c abc);
        t = t;
        found = e;
        span_typed = and_right (a && b && c) d h;
      }

-- over versions the range has one
pub system_later : (db : plain.Database) (table : ℕ) (k : AggKind) (column by : Option ℕ) (pred : TypedPred) (from to : ℕ)
    → IsTypedFor db (typed.Agg table k column by pred (span.System from to)) → from < to
system_later db table k column by pred from to h =
    let f = agg_facts db table k column by pred (span.System from to) h in
    ltb-true from to (and_left (nat_lt from to) (nat_le to (db.version + 1)) f.span_typed)

pub asked_typed : (db : plain.Database) (plan : AggPlan) (pred : TypedPred) (from to : ℕ) → IsAggFor db plan pred (span.System from to) → IsAskedOf db plan pred to
asked_typed db plan pred from to h =
    let f = agg_facts db plan.table plan.kind plan.column plan.by pred (span.System from to) h in
    record {
      table = f.there;
      suits = record { column = f.suits.column; kind = f.suits.kind; by = f.suits.by };
      typed = f.typed;
      within = leb-true to (db.version + 1) (and_right (nat_lt from to) (nat_le to (db.version + 1)) f.span_typed);
    }

-- OVER VALID TIME

has_valid : (b : Bool) (t : plain.Table) (version : ℕ) (from to : ℤ) (now : ℕ) → is_typed_span now b (span.Valid version from to) ≡ true → (b ≡ true) × (version ≤ now) × (from <ℤ to)
has_valid b t version from to now h =
    let bv = and_left (b && nat_le version now) (int_lt from to) h in
    (and_left b (nat_le version now) bv, leb-true version now (and_right b (nat_le version now) bv), (let k = and_right (b && nat_le version now) (int_lt from to) h in omega (arith, ints)))

pub asked_at : (db : plain.Database) (plan : AggPlan) (pred : TypedPred) (version : ℕ) (from to : ℤ) → IsAggFor db plan pred (span.Valid version from to) → IsAskedAt db plan pred version from to
asked_at db plan pred version from to h =
    let f = agg_facts db plan.table plan.kind plan.column plan.by pred (span.Valid version from to) h in
    let v = has_valid f.t.schema.valid f.t version from to db.version f.span_typed in
    record {
      table = f.there;
      suits = record { valid = rw f.found v.0; column = f.suits.column; kind = f.suits.kind; by = f.suits.by };
      typed = f.typed;
      known = v.1;
      some = v.2;
    }
