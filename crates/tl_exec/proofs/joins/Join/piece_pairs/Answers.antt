use Rattle.tl_exec.specs.Joining.{JoinOf}
use Rattle.tl_exec.proofs.BehindLemmas.{are_of, piece_within}
use Rattle.tl_exec.proofs.joins.Join.piece_pairs.Goals as goal

pub join_piece-requires-clause-sets : goal.join_piece-requires-clause-sets
join_piece-requires-clause-sets g c =
    let can = c.self.invariant in
    let join : JoinOf = record { entries = c.self.inside.snapshot.now; plan = c.self.inside.plan; range = c.self.inside.range; left_keep = c.self.inside.left_keep.now; right_keep = c.self.inside.right_keep.now } in (
      can.left_pred,
      can.right_pred,
      join.range.from,
      join.range.to,
      are_of join c.args.piece can.left_pred can.right_pred c.in_ok-lefts.lefts c.in_ok-rights.rights can.are (c.in_ok-lefts.ensures.set can.left_pred can.are.lefts) (c.in_ok-rights.ensures.set can.right_pred can.are.rights),
    )

pub returns-clause-pairs : goal.returns-clause-pairs
returns-clause-pairs g c =
    rw (← c.self.view_is) (λ left_pred right_pred between.
    let join : JoinOf = record { entries = c.self.inside.snapshot.now; plan = c.self.inside.plan; range = c.self.inside.range; left_keep = c.self.inside.left_keep.now; right_keep = c.self.inside.right_keep.now } in
    c.in_ok-pairs.ensures.pairs left_pred right_pred join.range.from join.range.to
    (are_of join c.args.piece left_pred right_pred c.in_ok-lefts.lefts c.in_ok-rights.rights between (c.in_ok-lefts.ensures.set left_pred between.lefts) (c.in_ok-rights.ensures.set right_pred between.rights)))

pub returns-clause-steps : goal.returns-clause-steps
returns-clause-steps g c =
    rw (← c.self.view_is) (λ left_pred right_pred between.
    let join : JoinOf = record { entries = c.self.inside.snapshot.now; plan = c.self.inside.plan; range = c.self.inside.range; left_keep = c.self.inside.left_keep.now; right_keep = c.self.inside.right_keep.now } in
    piece_within join c.args.piece left_pred right_pred c.in_ok-lefts.lefts c.in_ok-rights.rights c.args.steps.now c.starting_rows.new.steps c.starting_rows-2.new.steps c.join_piece.new.steps
    (c.in_ok-lefts.ensures.set left_pred between.lefts) (c.in_ok-rights.ensures.set right_pred between.rights) c.starting_rows.ensures.steps c.starting_rows-2.ensures.steps c.join_piece.ensures.steps)

pub returns-in_err-pairs-clause-steps : goal.returns-in_err-pairs-clause-steps
returns-in_err-pairs-clause-steps g c =
    rw (← c.self.view_is) (λ left_pred right_pred between.
    let join : JoinOf = record { entries = c.self.inside.snapshot.now; plan = c.self.inside.plan; range = c.self.inside.range; left_keep = c.self.inside.left_keep.now; right_keep = c.self.inside.right_keep.now } in
    piece_within join c.args.piece left_pred right_pred c.in_ok-lefts.lefts c.in_ok-rights.rights c.args.steps.now c.starting_rows.new.steps c.starting_rows-2.new.steps c.join_piece.new.steps
    (c.in_ok-lefts.ensures.set left_pred between.lefts) (c.in_ok-rights.ensures.set right_pred between.rights) c.starting_rows.ensures.steps c.starting_rows-2.ensures.steps c.join_piece.ensures.steps)
