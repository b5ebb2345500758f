use Rattle.std.proofs.Common.{◌≡◌, map, ap, ap₂, ◌∙◌}
use Rattle.tl_types.specs.History.{rows_of}
use Rattle.tl_query.specs.Ordered.{in_order, pair_before}
use Rattle.tl_query.specs.Joins.{pairs_of}
use Rattle.tl_query.specs.Answers.{run_fields, pair_fields}
use Rattle.tl_plain.specs.Grouping.{runs_over_rows}
use Rattle.tl_plain.proofs.Selecting.{selected_plain}
use Rattle.tl_plain.proofs.AnswerLemmas.{runs_plain, pairs_plain}
use Rattle.tl_plain.proofs.answers.answer_rows.Goals as goal
use Rattle.tl_plain.proofs.answers.answer_rows.Goals.{in-Select+in_ok-rows-in-Select, in-Agg+in_ok-rows-in-Agg, in-Join+in_ok-rows-in-Join}

pub returns : goal.returns
returns c =
    elim c.match-query.branch [
      | in-Select+in_ok-rows-in-Select w ↦
          let same = selected_plain c.args.tables.now w.in-Select.table w.in-Select.items w.in-Select.pred w.in-Select.valid_at w.in-Select.version in
          rw w.in-Select.is (cc (same, w.in_ok-rows-in-Select.ensures, w.rows-is, w.rows-rows.ensures.value, w.as_slice.ensures))
      | in-Agg+in_ok-rows-in-Agg w ↦
          let answer = rw w.plan_of-plan.ensures at w.in_ok-rows-in-Agg.ensures in
          let made : c.match-query.rows.items ≡ map run_fields (runs_over_rows w.in-Agg.kind w.in-Agg.column w.in-Agg.by w.in-Agg.pred w.in-Agg.span w.rows.result.now) = cc (w.rows-is, answer) in
          let rows = ap (λ rs. map run_fields (runs_over_rows w.in-Agg.kind w.in-Agg.column w.in-Agg.by w.in-Agg.pred w.in-Agg.span rs)) w.rows.ensures.value in
          let same = ap (map run_fields) (runs_plain c.args.tables.now w.in-Agg.table w.in-Agg.kind w.in-Agg.column w.in-Agg.by w.in-Agg.pred w.in-Agg.span) in
          rw w.in-Agg.is (made ∙ rows ∙ same)
      | in-Join+in_ok-rows-in-Join w ↦
          let left = w.side_of-left.result in
          let right = w.side_of-right.result in
          let lefts = rows_of c.args.tables.now w.in-Join.left in
          let rights = rows_of c.args.tables.now w.in-Join.right in
          let made : c.match-query.rows.items ≡ map (pair_fields left.rows.now right.rows.now) (in_order pair_before (pairs_of left.pred.now right.pred.now left.on right.on w.in-Join.span left.rows.now right.rows.now)) = cc (w.rows-is, w.in_ok-rows-in-Join.ensures) in
          let rows = ap₂ (λ ls rs. map (pair_fields ls rs) (in_order pair_before (pairs_of left.pred.now right.pred.now left.on right.on w.in-Join.span ls rs))) w.side_of-left.ensures.rows w.side_of-right.ensures.rows in
          let preds = ap₂ (λ p q. map (pair_fields lefts rights) (in_order pair_before (pairs_of p q left.on right.on w.in-Join.span lefts rights))) w.side_of-left.ensures.pred w.side_of-right.ensures.pred in
          let ons = ap₂ (λ n m. map (pair_fields lefts rights) (in_order pair_before (pairs_of w.in-Join.left_pred w.in-Join.right_pred n m w.in-Join.span lefts rights))) w.side_of-left.ensures.on w.side_of-right.ensures.on in
          let same = ap (map (pair_fields lefts rights)) (pairs_plain c.args.tables.now w.in-Join.left w.in-Join.left_pred w.in-Join.right w.in-Join.right_pred w.in-Join.left_on w.in-Join.right_on w.in-Join.span) in
          rw w.in-Join.is (made ∙ rows ∙ preds ∙ ons ∙ same)
    ]
