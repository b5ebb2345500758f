use Rattle.std.proofs.Common.{◌≡◌, ◌-◌, length, ap, sym, refl, ◌∙◌}
use Rattle.std.proofs.lemmas.List.{length-map, length-drop}
use Rattle.tl_types.specs.Entries.{commits_of}
use Rattle.tl_types.specs.Events.{place_of, events_of}
use Rattle.tl_types.specs.History.{database_of, rows_of, is_visible}
use Rattle.tl_types.specs.Walks.{standing}
use Rattle.tl_lanes.specs.Masks.{words_for}
use Rattle.tl_travel.specs.Bounds.{events_after_mark, begun_words, map_digits}
use Rattle.tl_agg.specs.Kept.{size}
use Rattle.tl_agg.specs.Runs.{start_set}
use Rattle.tl_exec.specs.Bounds.{events_inside}
use Rattle.tl_exec.proofs.PieceLemmas.{both_length, piece_steps}
use Rattle.tl_exec.proofs.aggregates.piece_runs.Goals as goal

pub returns-clause-steps : goal.returns-clause-steps
returns-clause-steps g c =
    let entries = c.args.snapshot.now in
    let db = database_of (commits_of entries) in
    let table = c.args.plan.now.table in
    let rows = rows_of db table in
    let keep = c.args.keep.now in
    let from = c.args.piece.from in
    let to = c.args.piece.to in
    let stand = length-map rows (is_visible from) in
    let long : length (start_set rows keep from) ≡ length rows = both_length (standing rows from) keep (stand ∙ sym c.requires.scan.kept) ∙ stand in
    let start_is : c.in_ok-start.start ≡ start_set rows keep from = c.in_ok-start.ensures.set ∙ ap (λ k. start_set rows k from) c.rows-rows.ensures in
    piece_steps c.args.steps.now c.start_set.new.steps c.aggregate.new.steps (events_after_mark entries table from)
    (events_inside db table from to) (place_of rows (to - 1) - place_of rows from) (size (start_set rows keep from)) (size c.in_ok-start.start)
    (begun_words db table) (words_for (length c.in_ok-start.start)) (map_digits db table) (map_digits db table)
    c.start_set.ensures.steps c.aggregate.ensures.steps
    (sym (length-drop (place_of rows from) (events_of rows (to - 1)))) (ap size start_is)
    (ap (λ s. words_for (length s)) start_is ∙ ap words_for long) refl
