use Rattle.std.proofs.Common.{rules, w64, SFits, subst, None}
use Rattle.std.proofs.lemmas.Int.{to_z-of_z}
use Rattle.tl_running.specs.Standing.{IsShort}
use Rattle.tl_watch.specs.Gathering.{row_at, Gathers}
use Rattle.tl_watch.proofs.StartLemmas.{taking_can}
use Rattle.tl_watch.proofs.GatherLemmas.{row_gathers, number_of_plan, key_none}
use Rattle.tl_watch.proofs.starts.take_one.Goals as goal

pub enter-requires-clause-room : goal.enter-requires-clause-room
enter-requires-clause-room g c =
    taking_can c.args.plan.now c.args.gathering.now.state (row_at c.args.reader.now c.args.id) None c.requires.taking (key_none c.args.plan.now (row_at c.args.reader.now c.args.id) c.requires.by)

pub returns-clause-gathers : goal.returns-clause-gathers
returns-clause-gathers g c =
    let fits : SFits w64 c.number-number.result = search rules in
    let whole = to_z-of_z w64 c.number-number.result fits in
    let short : IsShort c.number-number.result = search rules in
    row_gathers c.args.plan.now c.args.gathering.now c.enter.new.self (row_at c.args.reader.now c.args.id) c.number-number.result None c.requires.kind short
    (number_of_plan c.args.plan.now c.args.reader.now (row_at c.args.reader.now c.args.id) c.number-number.result c.requires.plan c.number-number.ensures.number)
    (key_none c.args.plan.now (row_at c.args.reader.now c.args.id) c.requires.by)
    (subst (λ n. Gathers None c.args.gathering.now c.enter.new.self n) whole c.in_ok-enter.ensures)
