use Rattle.std.proofs.Common.{rules, w64, SFits, subst, ◌∙◌, Some}
use Rattle.std.proofs.lemmas.Int.{to_z-of_z}
use Rattle.tl_running.specs.Standing.{IsShort}
use Rattle.tl_store.specs.Reading.{cell_shown}
use Rattle.tl_watch.specs.Gathering.{row_at, Gathers}
use Rattle.tl_watch.proofs.StartLemmas.{taking_can}
use Rattle.tl_watch.proofs.GatherLemmas.{row_gathers, number_of_plan, key_some}
use Rattle.tl_watch.proofs.starts.take_by.Goals as goal

pub key-key-requires-clause-by : goal.key-key-requires-clause-by
key-key-requires-clause-by g c = c.requires.plan.by ∙ c.requires.by

pub enter_by-requires-clause-room : goal.enter_by-requires-clause-room
enter_by-requires-clause-room g c =
    taking_can c.args.plan.now c.args.gathering.now.state (row_at c.args.reader.now c.args.id) (Some (cell_shown c.key-key.result)) c.requires.taking (key_some c.args.plan.now (row_at c.args.reader.now c.args.id) c.args.by (cell_shown c.key-key.result) c.requires.by c.key-key.ensures.key)

pub returns-clause-gathers : goal.returns-clause-gathers
returns-clause-gathers g c =
    let fits : SFits w64 c.number-number.result = search rules in
    let whole = to_z-of_z w64 c.number-number.result fits in
    let short : IsShort c.number-number.result = search rules in
    row_gathers c.args.plan.now c.args.gathering.now c.enter_by.new.self (row_at c.args.reader.now c.args.id) c.number-number.result (Some (cell_shown c.key-key.result)) c.requires.kind short
    (number_of_plan c.args.plan.now c.args.reader.now (row_at c.args.reader.now c.args.id) c.number-number.result c.requires.plan c.number-number.ensures.number)
    (key_some c.args.plan.now (row_at c.args.reader.now c.args.id) c.args.by (cell_shown c.key-key.result) c.requires.by c.key-key.ensures.key)
    (subst (λ n. Gathers (Some (cell_shown c.key-key.result)) c.args.gathering.now c.enter_by.new.self n) whole c.in_ok-enter_by.ensures)
