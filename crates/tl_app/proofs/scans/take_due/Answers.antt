use Rattle.std.proofs.Common.{◌≡◌, sym, ◌∙◌, subst, true, false, arith, w64, to_z, of_z, slice_get}
use Rattle.std.proofs.lemmas.Int.{to_z-of_z}
use Rattle.tl_app.specs.Scans.{due_at, IsCut}
use Rattle.tl_app.proofs.CutLemmas.{due_yes, front_more, cut_here}
use Rattle.tl_app.proofs.scans.take_due.Goals as goal

pub take_event-requires-clause-some : goal.take_event-requires-clause-some
take_event-requires-clause-some g c =
    let events = c.args.scan.now.events.now in
    let due : due_at (slice_get events c.taking.i) (to_z w64 (of_z w64 c.args.at)) ≡ true = sym c.is_due.ensures ∙ c.taking-test.true in
    (due_yes (to_z w64 (of_z w64 c.args.at)) events c.taking.i due).0

pub taking-preserved : goal.taking-preserved
taking-preserved g c =
    let events = c.args.scan.now.events.now in
    let i = c.taking.i in
    let at = to_z w64 (of_z w64 c.args.at) in
    let was = c.taking.invariant in
    let due : due_at (slice_get events i) at ≡ true = sym c.is_due.ensures ∙ c.taking-test.true in
    let yes = due_yes at events i due in
    let steps = c.take_event.ensures.steps in
    let before = was.steps in
    let past = was.past in
    record {
      holds = c.in_ok-take_event.ensures.holds;
      within = omega (arith, yes.0);
      past = omega arith;
      front = front_more at events i was.front yes.1;
      steps = omega arith;
    }

pub returns-clause-cut : goal.returns-clause-cut
returns-clause-cut g c =
    let events = c.args.scan.now.events.now in
    let at = to_z w64 (of_z w64 c.args.at) in
    let was = c.taking.invariant in
    let same = to_z-of_z w64 c.args.at c.ranges.at in
    let none : due_at (slice_get events c.taking.i) at ≡ false = sym c.is_due.ensures ∙ c.taking-test.false in
    subst (λ t. IsCut events t c.taking.i) same (cut_here at events c.taking.i c.requires.events.order was.within was.front none)
