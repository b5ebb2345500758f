use Rattle.std.proofs.Common.{ap, arith}
use Rattle.tl_types.specs.Entries.{commits_of}
use Rattle.tl_types.specs.History.{database_of, rows_of}
use Rattle.tl_lanes.specs.Masks.{words_for}
use Rattle.tl_agg.proofs.PieceLemmas.{start_long}
use Rattle.tl_agg.proofs.aggregates.aggregate.Goals as goal

pub returns-clause-steps : goal.returns-clause-steps
returns-clause-steps g c =
    let rows = rows_of (database_of (commits_of c.args.snapshot.now)) c.args.plan.now.table in
    let words = ap words_for (start_long rows c.args.keep.now c.args.start.now c.args.piece.from c.requires.keep c.requires.start) in
    let kept = c.new-kept.ensures.steps in
    let steps = c.aggregate.ensures.steps in
    omega arith
