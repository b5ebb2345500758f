use Rattle.std.proofs.Common.{◌≡◌, ◌+◌, ◌-◌, ◌/◌, ◌∙◌, ap, refl, arith, length}
use Rattle.std.specs.Prelude.{slice_get, Some}
use Rattle.std.proofs.lemmas.Option.{slice_get_read}
use Rattle.tl_types.specs.Checkpoints.{Checkpoint}
use Rattle.tl_ckpt.proofs.MarkLemmas.{front_more, back_more}
use Rattle.tl_ckpt.proofs.marks.marks_to.Goals as goal

pub halving-preserved-then-version : goal.halving-preserved-then-version
halving-preserved-then-version c =
    let marks = c.args.list.now in
    let middle = c.halving.low + (c.halving.high - c.halving.low) / 2 in
    let is : slice_get marks middle ≡ Some c.at.result.now = slice_get_read marks (length marks) middle c.at.result.now refl (omega arith) c.at.ensures in
    let version : c.version.result ≡ c.at.result.now.version = c.version.ensures ∙ ap (λ (m : Checkpoint). m.version) c.get.ensures in record {
      ordered = omega arith;
      within = c.halving.invariant.within;
      front = front_more marks c.args.version middle c.at.result.now c.requires is (let t = c.if-version.true in omega (arith, t, version));
      back = c.halving.invariant.back;
    }

pub halving-preserved : goal.halving-preserved
halving-preserved c =
    let marks = c.args.list.now in
    let middle = c.halving.low + (c.halving.high - c.halving.low) / 2 in
    let is : slice_get marks middle ≡ Some c.at.result.now = slice_get_read marks (length marks) middle c.at.result.now refl (omega arith) c.at.ensures in
    let version : c.version.result ≡ c.at.result.now.version = c.version.ensures ∙ ap (λ (m : Checkpoint). m.version) c.get.ensures in record {
      ordered = omega arith;
      within = omega arith;
      front = c.halving.invariant.front;
      back = back_more marks c.args.version middle c.at.result.now c.requires is (let t = c.if-version.false in omega (arith, t, version));
    }
