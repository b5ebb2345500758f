use Rattle.std.proofs.Common.{◌≡◌, ◌&&◌, Bool, List, IfOk, length, ap, subst, ◌∙◌}
use Rattle.std.proofs.lemmas.List.{length-map}
use Rattle.tl_types.specs.declared.answers.Field.{Field}
use Rattle.tl_types.specs.Entries.{commits_of}
use Rattle.tl_types.specs.History.{database_of, rows_of, is_visible}
use Rattle.tl_types.specs.Plain as plain
use Rattle.tl_query.specs.Passing.{passes}
use Rattle.tl_lanes.specs.Masks.{words_for}
use Rattle.tl_travel.specs.Bounds.{events_after_mark, begun_words, map_digits}
use Rattle.tl_filter.specs.Selecting.{tests_in}
use Rattle.tl_exec.specs.Bounds.{rows_chosen}
use Rattle.tl_exec.specs.Shown.{rows_in_set, fields_in_set}
use Rattle.tl_exec.proofs.SelectLemmas.{selected_shown, chosen_shown, select_within}
use Rattle.tl_exec.proofs.selects.select_fields.Goals as goal

pub returns-clause-rows : goal.returns-clause-rows
returns-clause-rows g c =
    let db = database_of (commits_of c.args.snapshot.now) in
    let table = c.args.asked.table in
    let same : rows_of (database_of c.args.asked.store.now) table ≡ rows_of db table = ap (λ commits. rows_of (database_of commits) table) c.requires.store in
    let shown = ap (fields_in_set c.args.asked.items.now c.args.asked.valid_at c.in_ok-set.set) same
    ∙ selected_shown db table c.args.asked.items.now c.args.pred.now c.args.asked.valid_at c.args.version c.in_ok-set.set c.in_ok-set.ensures.set in
    subst (λ (rows : List (List Field)). IfOk c.fields_of_set.result (λ answer. answer.rows ≡ rows)) shown c.fields_of_set.ensures.rows

pub returns-clause-steps : goal.returns-clause-steps
returns-clause-steps g c =
    let db = database_of (commits_of c.args.snapshot.now) in
    let table = c.args.asked.table in
    let set = c.in_ok-set.set in
    let f : plain.Row → Bool = λ r. is_visible c.args.version r && passes c.args.pred.now r in
    let same : rows_of (database_of c.args.asked.store.now) table ≡ rows_of db table = ap (λ commits. rows_of (database_of commits) table) c.requires.store in
    let long : length set ≡ length (rows_of db table) = ap length c.in_ok-set.ensures.set ∙ length-map (rows_of db table) f in
    select_within c.args.steps.now c.chosen_rows.new.steps c.fields_of_set.new.steps (tests_in c.args.pred.now) (begun_words db table)
    (events_after_mark c.args.snapshot.now table c.args.version) (map_digits db table) (length c.args.asked.items.now) (rows_chosen db table c.args.version c.args.pred.now)
    (words_for (length set)) (length (rows_in_set set (rows_of (database_of c.args.asked.store.now) table))) c.chosen_rows.ensures.steps c.fields_of_set.ensures.steps
    (ap words_for long)
    (ap (λ rows. length (rows_in_set set rows)) same ∙ chosen_shown db table c.args.pred.now c.args.version set c.in_ok-set.ensures.set)
