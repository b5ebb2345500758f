use Rattle.std.proofs.Common.{Bool, Vec, Global, ap, ◌+◌, ◌<◌, ◌∙◌, length, sym, subst, arith}
use Rattle.tl_types.specs.declared.events.ValidEvent.{ValidEvent}
use Rattle.tl_bits.specs.Sets.{is_member}
use Rattle.tl_app.proofs.KeptLemmas.{IsSifted, same_there, moves, stays}
use Rattle.tl_app.proofs.kept.kept_events.Goals.{then-test, else-test}
use Rattle.tl_app.proofs.kept.kept_events.Goals as goal

pub test-requires : goal.test-requires
test-requires g c =
    let e = c.index-event.result.now in
    let test = c.loop-i-test.true in
    let end = c.len-i-end.ensures in
    subst (λ (x : ValidEvent). x.row < length c.args.keep.now) (sym (c.index-event.ensures ∙ same_there c.loop-i.events.items c.args.events.items c.loop-i.i e c.loop-i.invariant.sifted.back)) (c.requires c.loop-i.i e (omega arith))

pub loop-i-preserved : goal.loop-i-preserved
loop-i-preserved g c =
    let e = c.index-event.result.now in
    let test = c.loop-i-test.true in
    let end = c.len-i-end.ensures in
    let steps = c.test.ensures.steps in
    let before = c.loop-i.invariant.steps in
    let P : ValidEvent → Bool = λ event. is_member c.args.keep.now event.row in record {
      sifted = elim c.if-test.branch [
        | then-test w ↦ subst (λ k. IsSifted P c.args.events.items c.if-test.events.items (c.loop-i.i + 1) k) (sym w.kept-is) (moves P c.args.events.items c.loop-i.events.items c.loop-i.i c.loop-i.kept e c.loop-i.invariant.sifted c.if-test.events.items (omega arith) c.index-event.ensures (sym c.test.ensures.member ∙ w.if-test.true) (ap (λ (v : Vec ValidEvent Global). v.items) w.events-is))
        | else-test w ↦ subst (λ k. IsSifted P c.args.events.items c.if-test.events.items (c.loop-i.i + 1) k) (sym w.kept-is) (subst (λ v. IsSifted P c.args.events.items v.items (c.loop-i.i + 1) c.loop-i.kept) (sym w.events-is) (stays P c.args.events.items c.loop-i.events.items c.loop-i.i c.loop-i.kept e c.loop-i.invariant.sifted (omega arith) c.index-event.ensures (sym c.test.ensures.member ∙ w.if-test.false)))
      ];
      steps = omega arith;
    }
