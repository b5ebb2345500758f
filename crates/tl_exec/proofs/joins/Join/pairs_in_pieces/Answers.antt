use Rattle.std.proofs.Common.{◌∙◌}
use Rattle.tl_range.specs.Dividing.{Follow}
use Rattle.tl_exec.proofs.BehindLemmas.{all_behind}
use Rattle.tl_exec.proofs.joins.Join.pairs_in_pieces.Goals as goal

pub returns : goal.returns
returns g c = λ left_pred right_pred between.
    let join = c.args.self.now in
    let follow : Follow join.range.from join.range.to c.in_ok-divided.divided = rw (← c.self.view_is) c.in_ok-divided.ensures.cover in
    c.in_ok-pairs.ensures ∙ all_behind join c.in_ok-divided.divided c.in_ok-parts.parts c.in_ok-parts.ensures.len follow c.in_ok-parts.ensures.each left_pred right_pred between
