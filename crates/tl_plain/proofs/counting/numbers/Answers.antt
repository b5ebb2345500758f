use Rattle.std.proofs.Common.{◌≡◌, ◌<◌, ◌+◌, ◌++◌, [], ◌∷◌, length, ap, ◌∙◌, arith, rules, w64, SFits}
use mir.Val.{to_z, of_z}
use Rattle.std.proofs.lemmas.Int.{to_z-of_z}
use Rattle.std.proofs.lemmas.List.{length_push}
use Rattle.tl_query.specs.Aggregates.{number_at, numbers_of}
use Rattle.tl_plain.specs.Choosing.{lent, is_there, there_at}
use Rattle.std.specs.Borrow.{Bor}
use Rattle.tl_types.specs.Plain as plain
use Rattle.tl_plain.proofs.CollectLemmas.{behind_item, behind_within, lent_all}
use Rattle.tl_plain.proofs.CountLemmas.{number_kept, number_left}
use Rattle.tl_plain.proofs.counting.numbers.Goals as goal
use Rattle.tl_plain.proofs.counting.numbers.Goals.{in-Some+in_ok-push, in_default}

pub loop-row-preserved : goal.loop-row-preserved
loop-row-preserved c =
    let was = c.loop-row.invariant in
    let here : c.loop-row.row-index < length c.args.rows.now = omega arith in
    let rows = lent c.args.rows.now in
    let within = behind_within (λ (r : Bor plain.Row). r.now) c.args.rows.now c.loop-row.row-index here in
    let is = behind_item (λ (r : Bor plain.Row). r.now) c.args.rows.now c.loop-row.row-index c.row-item.result here c.row-item.is in
    let h = number_at c.args.column in
    let p = is_there c.args.span (to_z w64 (of_z w64 c.args.moment)) in
    elim c.match-number_there.branch [
      | in-Some+in_ok-push w ↦
          let fits : SFits w64 w.in-Some.number = search rules in
          let same = to_z-of_z w64 w.in-Some.number fits in
          let step : c.match-number_there.numbers.items ≡ c.loop-row.numbers.items ++ w.in-Some.number ∷ [] = cc (w.numbers-is, w.in_ok-push.ensures.items, same) in
          let grown : length c.match-number_there.numbers.items ≡ length c.loop-row.numbers.items + 1 = ap length step ∙ length_push c.loop-row.numbers.items w.in-Some.number in
          record { few = omega (arith, was.few); given = number_kept h p rows c.loop-row.row-index c.row-item.result.now w.in-Some.number c.loop-row.numbers.items c.match-number_there.numbers.items within is w.in-Some.ensures step was.given }
      | in_default w ↦
          rw w.numbers-is (record { few = omega (arith, was.few); given = number_left h p rows c.loop-row.row-index c.row-item.result.now c.loop-row.numbers.items within is w.in_default.ensures was.given })
    ]

pub returns-clause-ok : goal.returns-clause-ok
returns-clause-ok c =
    let all = lent_all c.args.rows.now c.loop-row.row-index c.loop-row-test.false in
    let same = to_z-of_z w64 c.args.moment c.ranges.moment in
    c.loop-row.invariant.given ∙ ap (λ rows. numbers_of c.args.column (there_at c.args.span rows (to_z w64 (of_z w64 c.args.moment)))) all ∙ ap (λ m. numbers_of c.args.column (there_at c.args.span (lent c.args.rows.now) m)) same
