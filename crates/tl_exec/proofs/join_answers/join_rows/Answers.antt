use Rattle.std.proofs.Common.{◌+◌, ◌≤◌, ◌∙◌, ap, map}
use Rattle.tl_types.specs.History.{rows_of}
use Rattle.tl_query.specs.Answers.{pair_fields}
use Rattle.tl_exec.specs.Joining.{JoinOf, joined_in, IsBetween, ArePairsOver}
use Rattle.tl_exec.specs.JoinBounds.{pairs_steps}
use Rattle.tl_exec.proofs.BehindLemmas.{all_joined, join_within, over_same, pairs_within, steps_same}
use Rattle.tl_exec.proofs.join_answers.join_rows.Goals as goal

pub returns-clause-rows : goal.returns-clause-rows
returns-clause-rows g c =
    let left_pred = c.args.joined.left_pred.now in
    let right_pred = c.args.joined.right_pred.now in
    let join : JoinOf = record { entries = c.args.snapshot.now; plan = c.args.joined.plan; range = c.args.joined.range; left_keep = c.in_ok-lefts.lefts; right_keep = c.in_ok-rights.rights } in
    let between : IsBetween join left_pred right_pred = record { from = c.requires.join.from; to = c.requires.join.to; lefts = c.in_ok-lefts.ensures.set; rights = c.in_ok-rights.ensures.set } in
    let are : ArePairsOver join join.range c.in_ok-pairs.pairs = over_same c.new-join.result join c.in_ok-pairs.pairs c.new-join.ensures c.in_ok-pairs.ensures.pairs in
    c.in_ok-rows.ensures.rows ∙ ap (map (pair_fields (rows_of (joined_in join) join.plan.left) (rows_of (joined_in join) join.plan.right))) (all_joined join c.in_ok-pairs.pairs left_pred right_pred between are)

pub returns-clause-steps : goal.returns-clause-steps
returns-clause-steps g c = λ one.
    let left_pred = c.args.joined.left_pred.now in
    let right_pred = c.args.joined.right_pred.now in
    let join : JoinOf = record { entries = c.args.snapshot.now; plan = c.args.joined.plan; range = c.args.joined.range; left_keep = c.in_ok-lefts.lefts; right_keep = c.in_ok-rights.rights } in
    let between : IsBetween join left_pred right_pred = record { from = c.requires.join.from; to = c.requires.join.to; lefts = c.in_ok-lefts.ensures.set; rights = c.in_ok-rights.ensures.set } in
    let are : ArePairsOver join join.range c.in_ok-pairs.pairs = over_same c.new-join.result join c.in_ok-pairs.pairs c.new-join.ensures c.in_ok-pairs.ensures.pairs in
    let three : c.pairs.new.steps ≤ c.passing_rows-2.new.steps + pairs_steps join join.range left_pred right_pred =
    steps_same c.new-join.result join c.passing_rows-2.new.steps c.pairs.new.steps left_pred right_pred c.new-join.ensures between (c.pairs.ensures.steps one left_pred right_pred) in
    join_within join c.in_ok-pairs.pairs left_pred right_pred c.args.steps.now c.passing_rows.new.steps c.passing_rows-2.new.steps c.pairs.new.steps c.rows_of_pairs.new.steps
    c.passing_rows.ensures.steps c.passing_rows-2.ensures.steps three c.rows_of_pairs.ensures.steps (all_joined join c.in_ok-pairs.pairs left_pred right_pred between are)

pub returns-in_err-pairs-clause-steps : goal.returns-in_err-pairs-clause-steps
returns-in_err-pairs-clause-steps g c = λ one.
    let left_pred = c.args.joined.left_pred.now in
    let right_pred = c.args.joined.right_pred.now in
    let join : JoinOf = record { entries = c.args.snapshot.now; plan = c.args.joined.plan; range = c.args.joined.range; left_keep = c.in_ok-lefts.lefts; right_keep = c.in_ok-rights.rights } in
    let between : IsBetween join left_pred right_pred = record { from = c.requires.join.from; to = c.requires.join.to; lefts = c.in_ok-lefts.ensures.set; rights = c.in_ok-rights.ensures.set } in
    let three : c.pairs.new.steps ≤ c.passing_rows-2.new.steps + pairs_steps join join.range left_pred right_pred =
    steps_same c.new-join.result join c.passing_rows-2.new.steps c.pairs.new.steps left_pred right_pred c.new-join.ensures between (c.pairs.ensures.steps one left_pred right_pred) in
    pairs_within join left_pred right_pred c.args.steps.now c.passing_rows.new.steps c.passing_rows-2.new.steps c.pairs.new.steps c.passing_rows.ensures.steps c.passing_rows-2.ensures.steps three

pub returns-in_err-rows-clause-steps : goal.returns-in_err-rows-clause-steps
returns-in_err-rows-clause-steps g c = λ one.
    let left_pred = c.args.joined.left_pred.now in
    let right_pred = c.args.joined.right_pred.now in
    let join : JoinOf = record { entries = c.args.snapshot.now; plan = c.args.joined.plan; range = c.args.joined.range; left_keep = c.in_ok-lefts.lefts; right_keep = c.in_ok-rights.rights } in
    let between : IsBetween join left_pred right_pred = record { from = c.requires.join.from; to = c.requires.join.to; lefts = c.in_ok-lefts.ensures.set; rights = c.in_ok-rights.ensures.set } in
    let are : ArePairsOver join join.range c.in_ok-pairs.pairs = over_same c.new-join.result join c.in_ok-pairs.pairs c.new-join.ensures c.in_ok-pairs.ensures.pairs in
    let three : c.pairs.new.steps ≤ c.passing_rows-2.new.steps + pairs_steps join join.range left_pred right_pred =
    steps_same c.new-join.result join c.passing_rows-2.new.steps c.pairs.new.steps left_pred right_pred c.new-join.ensures between (c.pairs.ensures.steps one left_pred right_pred) in
    join_within join c.in_ok-pairs.pairs left_pred right_pred c.args.steps.now c.passing_rows.new.steps c.passing_rows-2.new.steps c.pairs.new.steps c.rows_of_pairs.new.steps
    c.passing_rows.ensures.steps c.passing_rows-2.ensures.steps three c.rows_of_pairs.ensures.steps (all_joined join c.in_ok-pairs.pairs left_pred right_pred between are)
