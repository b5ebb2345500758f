-- The range of a query without faults has no fault.
use Rattle.std.proofs.Common.{◌≡◌, ℕ, Bool, ◌||◌, ◌∷◌, [], ◌++◌, map, Option, None, subst}
use Rattle.tl_query.specs.declared.ast.Stamp.{Stamp}
use Rattle.tl_query.specs.declared.ast.AsOf.{AsOf}
use Rattle.tl_query.specs.declared.ast.Over.{Over}
use Rattle.tl_query.specs.declared.ast.Over.TheVariants as over
use Rattle.tl_query.specs.declared.ast.SelectForm.{SelectForm}
use Rattle.tl_query.specs.declared.ast.AggForm.{AggForm}
use Rattle.tl_query.specs.declared.ast.JoinForm.{JoinForm}
use Rattle.tl_query.specs.Checking.{first_of, item_fault, version_fault, Times}
use Rattle.tl_query.specs.CheckingQueries.{Known, agg_faults, by_faults, is_timeless, join_faults, measure_faults, on_faults, over_faults, pred_faults, select_faults, table_fault, where_known}
use Rattle.tl_check.proofs.FirstLemmas.{all_none, last_none, none_of_parts}

pub agg_range : (times : Times) (table : Known) (form : AggForm) → first_of (agg_faults times table form) ≡ None → first_of (over_faults times (is_timeless table) form.over) ≡ None
agg_range times table form h =
    last_none (where_known table (λ s. measure_faults s form.column) ++ (table_fault table form.table ∷ []) ++ where_known table (λ s. pred_faults s form.pred) ++ where_known table (λ s. by_faults s form.by)) _ h

pub join_range : (times : Times) (left right : Known) (form : JoinForm) → first_of (join_faults times left right form) ≡ None → first_of (over_faults times (is_timeless left || is_timeless right) form.over) ≡ None
join_range times left right form h =
    last_none ((table_fault left form.left ∷ []) ++ where_known left (λ s. pred_faults s form.left_pred) ++ (table_fault right form.right ∷ []) ++ where_known right (λ s. pred_faults s form.right_pred) ++ on_faults left right form) _ h

-- the version of a query without faults is not after the last commit
pub select_version : (times : Times) (table : Known) (form : SelectForm) → first_of (select_faults times table form) ≡ None → version_fault times form.as_of ≡ None
select_version times table form h =
    (none_of_parts (where_known table (λ s. map (item_fault s) form.items) ++ (table_fault table form.table ∷ []) ++ where_known table (λ s. pred_faults s form.pred)) _ (all_none (select_faults times table form) h)).1.1.0

pub valid_version : (times : Times) (timeless : Bool) (o : Over) (pos : ℕ) (from to : Stamp) (as_of : Option AsOf) → o ≡ over.Valid pos from to as_of → first_of (over_faults times timeless o) ≡ None → version_fault times as_of ≡ None
valid_version times timeless o pos from to as_of is h =
    let faults : first_of (over_faults times timeless (over.Valid pos from to as_of)) ≡ None = subst (λ (v : Over). first_of (over_faults times timeless v) ≡ None) is h in
    (all_none (over_faults times timeless (over.Valid pos from to as_of)) faults).1.1.0
