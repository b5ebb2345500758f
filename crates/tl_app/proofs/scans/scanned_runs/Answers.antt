use Rattle.std.proofs.Common.{◌≡◌, ℤ, ◌<◌, ◌-ℤ◌, ◌≤ℤ◌, ◌<ℤ◌, length, take, sym, ap, ◌∙◌, subst, arith, w64, to_z, of_z, slice_get, rules, SFits, refl}
use Rattle.std.proofs.lemmas.Int.{ints, to_z-of_z}
use Rattle.tl_types.specs.Runs.{count_of}
use Rattle.tl_types.proofs.RunLemmas.{none_made, more_made}
use Rattle.tl_query.specs.Aggregates.{aggregate_of}
use Rattle.tl_running.specs.Standing.{Suits}
use Rattle.tl_app.specs.Opening.{open_rows}
use Rattle.tl_app.specs.Scans.{plan_rows, next_of, IsCut, open_value, Tells}
use Rattle.tl_app.proofs.CutLemmas.{cut_is, next_after, cut_until, count_less, less_true, less_false, made_all, add_all}
use Rattle.tl_app.proofs.HoldLemmas.{holds_none}
use Rattle.tl_running.proofs.TellLemmas.{has_told}
use Rattle.std.specs.List.{AllByRecursion}
use Rattle.std.specs.Prelude.{◌==◌, not}
use Rattle.tl_types.specs.Runs.{stretch_of}
use Rattle.tl_running.specs.Telling.{has_rows}
use Rattle.tl_app.proofs.scans.scanned_runs.Goals as goal

pub moments-init : goal.moments-init
moments-init g c = record {
  made = none_made _ _ _ _ _ refl c.in_ok-runs.ensures.items;
  holds = holds_none (plan_rows c.args.scan.now.store.now c.args.scan.now.plan.now) c.args.scan.now.plan.now c.none-running.result c.none-running.ensures.kind (c.none-running.ensures.stands c.args.scan.now.plan.now.column);
  tells = subst (AllByRecursion (Tells (plan_rows c.args.scan.now.store.now c.args.scan.now.plan.now) c.args.scan.now.plan.now c.args.scan.now.events.now)) (sym c.in_ok-runs.ensures.items) tt;
  within = omega arith;
  front = λ k d l. absurd (omega arith);
  steps = omega arith;
}

pub moments-smaller : goal.moments-smaller
moments-smaller g c =
    let events = c.args.scan.now.events.now in
    let at = to_z w64 c.moments.at-bits in
    let to = to_z w64 (of_z w64 c.args.to) in
    let cut : IsCut events at c.in_ok-i.i = c.in_ok-i.ensures.cut in
    let fits : SFits w64 c.next_moment-next.result = search rules in
    let same = to_z-of_z w64 c.next_moment-next.result fits in
    let next_is : c.next_moment-next.result ≡ next_of (slice_get events c.in_ok-i.i) to = c.next_moment-next.ensures in
    let more : at <ℤ to = less_true at to c.moments-test.true in
    let next = next_after at to events c.in_ok-i.i cut more in
    rw same (subst (λ t. count_of (to -ℤ t) < count_of (to -ℤ at)) (sym next_is) (count_less at (next_of (slice_get events c.in_ok-i.i) to) to next.0 next.1))

pub moments-preserved : goal.moments-preserved
moments-preserved g c =
    let events = c.args.scan.now.events.now in
    let plan = c.args.scan.now.plan.now in
    let rows = plan_rows c.args.scan.now.store.now plan in
    let i = c.in_ok-i.i in
    let at = to_z w64 c.moments.at-bits in
    let to = to_z w64 (of_z w64 c.args.to) in
    let from = to_z w64 (of_z w64 c.args.from) in
    let was = c.moments.invariant in
    let cut : IsCut events at i = c.in_ok-i.ensures.cut in
    let holds = c.in_ok-i.ensures.holds in
    let fits : SFits w64 c.next_moment-next.result = search rules in
    let same = to_z-of_z w64 c.next_moment-next.result fits in
    let next_is : c.next_moment-next.result ≡ next_of (slice_get events i) to = c.next_moment-next.ensures in
    let more : at <ℤ to = less_true at to c.moments-test.true in
    let next = next_of (slice_get events i) to in
    let after = next_after at to events i cut more in
    let here = cut_is at events i cut in
    let value : ℤ → _ = open_value rows plan events in
    let kept : (m : ℤ) → at ≤ℤ m → m <ℤ next → value m ≡ value at = λ m l r. ap (λ done. aggregate_of plan.kind plan.column (open_rows rows done)) (cut_is m events i (cut_until at to m events i c.requires.events.order cut l r) ∙ sym here) in
    let suits = subst (λ k. Suits k plan.column (open_rows rows (take i events))) (sym holds.kind) holds.suits in
    let value_is : c.value.result ≡ value at = c.value.ensures plan.column (open_rows rows (take i events)) holds.stands suits
    ∙ ap (λ k. aggregate_of k plan.column (open_rows rows (take i events))) holds.kind ∙ ap (λ done. aggregate_of plan.kind plan.column (open_rows rows done)) (sym here) in
    let whole : to_z w64 (of_z w64 c.next_moment-next.result) ≡ next = same ∙ next_is in
    let steps = c.in_ok-i.ensures.steps in
    let before = was.steps in
    record {
      made = rw whole (more_made value from to at next c.moments.runs.items c.add_stretch.new.runs.items c.value.result was.made after.0 after.1 kept value_is (rw whole at c.in_ok-add_stretch.ensures));
      holds = holds;
      tells = subst (AllByRecursion (Tells rows plan events)) (sym c.in_ok-add_stretch.ensures) (add_all (Tells rows plan events) c.moments.runs.items (stretch_of at (to_z w64 (of_z w64 c.next_moment-next.result)) c.value.result) was.tells
          (ap (has_rows plan.kind) (value_is ∙ ap (λ done. aggregate_of plan.kind plan.column (open_rows rows done)) here) ∙ has_told plan.kind plan.column (open_rows rows (take i events)) holds.suits ∙ ap (λ done. not (length (open_rows rows done) == 0)) (sym here)) (λ r x t. t));
      within = cut.within;
      front = λ k d l. rw whole (let h = cut.front k d l in let m = after.0 in omega (arith, ints));
      steps = omega arith;
    }

pub returns-clause-runs : goal.returns-clause-runs
returns-clause-runs g c =
    let at = to_z w64 c.moments.at-bits in
    let to = to_z w64 (of_z w64 c.args.to) in
    let past : to ≤ℤ at = less_false at to c.moments-test.false in
    rw (to_z-of_z w64 c.args.from c.ranges.from, to_z-of_z w64 c.args.to c.ranges.to) at (made_all _ _ to at c.moments.runs.items c.moments.invariant.made past)
