use Rattle.std.proofs.Common.{◌+◌, length, map, ap, ◌∙◌}
use Rattle.std.proofs.lemmas.List.{length-map}
use Rattle.tl_types.specs.Entries.{commits_of}
use Rattle.tl_types.specs.History.{database_of, rows_of}
use Rattle.tl_lanes.specs.Masks.{words_for}
use Rattle.tl_query.specs.Passing.{passes}
use Rattle.tl_travel.specs.Bounds.{events_after_mark, begun_words, map_digits}
use Rattle.tl_filter.specs.Selecting.{tests_in}
use Rattle.tl_agg.specs.Kept.{size}
use Rattle.tl_agg.specs.Runs.{start_set}
use Rattle.tl_exec.specs.Bounds.{events_inside, rows_chosen}
use Rattle.tl_exec.proofs.PieceLemmas.{range_steps, start_size}
use Rattle.tl_exec.proofs.ranges.range_runs.Goals as goal

pub returns-clause-steps : goal.returns-clause-steps
returns-clause-steps g c = λ one.
    let entries = c.args.snapshot.now in
    let db = database_of (commits_of entries) in
    let table = c.args.asked.plan.table in
    let pred = c.args.asked.pred.now in
    let from = c.args.asked.range.from in
    let rows = rows_of db table in
    let kept = c.new-kept.result in
    let counted = c.new-kept.ensures.steps ∙ ap (λ n. c.passing_rows.new.steps + words_for n) (ap length c.in_ok-keep.ensures.set ∙ length-map rows (passes pred)) in
    range_steps c.args.steps.now c.passing_rows.new.steps c.new-kept.new.steps c.piece_runs.new.steps (tests_in pred) (begun_words db table) (events_after_mark entries table from)
    (events_inside db table from c.args.asked.range.to) (rows_chosen db table from pred) (size (start_set rows kept from)) (map_digits db table)
    c.passing_rows.ensures.steps counted c.piece_runs.ensures.steps (start_size db table pred from kept (c.new-kept.ensures.rows ∙ c.in_ok-keep.ensures.set))
