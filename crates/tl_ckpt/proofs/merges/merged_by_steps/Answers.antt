use Rattle.std.proofs.Common.{◌≤◌, ◌⊎◌, ◌++◌, ◌∙◌, inl, inr, ap, length, arith}
use Rattle.tl_ckpt.specs.Valid.{merged}
use Rattle.tl_ckpt.proofs.Merging.{rest_goes_on}
use Rattle.tl_ckpt.proofs.merges.merged_by_steps.Goals.{then-steps-test+else-j-changes, else-steps-test}
use Rattle.tl_ckpt.proofs.merges.merged_by_steps.Goals as goal

pub returns : goal.returns
returns c =
    let events = c.args.events.now in
    let changes = c.args.changes.now in
    let i = c.steps.i in
    let j = c.steps.j in
    let end : (length events ≤ i) ⊎ (length changes ≤ j) = elim c.steps-test.branch [ then-steps-test+else-j-changes w ↦ inr (omega arith) | else-steps-test w ↦ inl (omega arith) ] in
    rest_goes_on (merged events changes) events changes c.steps.out.items c.extend_from_slice.new.self.items c.extend_from_slice-2.new.self.items i j end c.steps.invariant.all
    (c.in_ok-extend_from_slice.ensures.items ∙ ap (λ ys. c.steps.out.items ++ ys) c.split_at.ensures.back)
    (c.in_ok-extend_from_slice-2.ensures.items ∙ ap (λ ys. c.extend_from_slice.new.self.items ++ ys) c.split_at-2.ensures.back)
