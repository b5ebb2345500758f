-- The plan of a query that suits a database is one for its table.
use Rattle.std.proofs.Common.{◌≡◌, ℕ, true, ◌&&◌, length, Option, Some, None, slice_get, refl}
use Rattle.std.specs.Prelude.{option_map}
use Rattle.std.proofs.lemmas.Bool.{ltb-true}
use Rattle.std.proofs.lemmas.Option.{slice_get_within}
use Rattle.tl_types.proofs.Lists.{and_left, and_right}
use Rattle.tl_types.specs.Plain as plain
use Rattle.tl_query.specs.TypedFor.{is_typed_agg, is_typed_aggregate, is_typed_group, is_typed_pred, is_typed_span}
use Rattle.tl_filter.specs.Selecting.{IsTypedPredFor}
use Rattle.tl_filter.proofs.SelectLemmas.{typed_columns}
use Rattle.tl_agg.proofs.TypedAggregates.{agg_column, agg_count}
use Rattle.tl_watch.specs.declared.plans.WatchPlan.{WatchPlan}
use Rattle.tl_watch.specs.Reading.{IsWithin}
use Rattle.tl_watch.specs.Watches.{IsOfQuery, IsPlanFor}

plan_group : (schema : plain.Schema) (by : Option ℕ) → is_typed_group schema by ≡ true → IsWithin by (length schema.columns)
plan_group schema None h = tt
plan_group schema (Some c) h = ltb-true c (length schema.columns) h

-- what the plan of such a query has
record Facts (plan : WatchPlan) (db : plain.Database) : Type 0 where
  pub is : IsPlanFor plan db
  pub typed : IsTypedPredFor db plan.table plan.pred

facts : (plan : WatchPlan) (db : plain.Database) → IsOfQuery plan db → Facts plan db
facts plan db query = by_table (slice_get db.tables plan.table) refl query.1 where
  by_table : (o : Option plain.Table) → slice_get db.tables plan.table ≡ o → is_typed_agg db.version plan.kind plan.column plan.by plan.pred query.0 (option_map (λ t. t.schema) o) ≡ true → Facts plan db
  by_table None e h = absurd (cc)
  by_table (Some t) e h =
      let a = is_typed_aggregate t.schema plan.kind plan.column in
      let b = is_typed_group t.schema plan.by in
      let c = is_typed_pred t.schema plan.pred in
      let d = is_typed_span db.version t.schema.valid query.0 in
      let abc : (a && b && c) ≡ true = and_left (a && b && c) d h in
      let ab : (a && b) ≡ true = and_left (a && b) c abc in
      let typed_it : IsTypedPredFor db plan.table plan.pred = rw e (and_right (a && b) c abc) in
      record {
        is = record {
          there = slice_get_within db.tables plan.table t e;
          tests = typed_columns db plan.table plan.pred typed_it;
          column = λ place is. rw e (agg_column t.schema plan.kind plan.column place (and_left a b ab) is);
          kind = λ is. agg_count t.schema plan.kind plan.column (and_left a b ab) is;
          by = rw e (plan_group t.schema plan.by (and_right a b ab));
        };
        typed = typed_it;
      }

pub plan_is : (plan : WatchPlan) (db : plain.Database) → IsOfQuery plan db → IsPlanFor plan db
plan_is plan db query = (facts plan db query).is

pub pred_is : (plan : WatchPlan) (db : plain.Database) → IsOfQuery plan db → IsTypedPredFor db plan.table plan.pred
pred_is plan db query = (facts plan db query).typed
