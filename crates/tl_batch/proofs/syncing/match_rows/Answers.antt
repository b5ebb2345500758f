use Rattle.std.proofs.Common.{◌≡◌, ◌+◌, ◌≤◌, ◌++◌, drop, get_or, length, refl, sym, ap, ◌∙◌, arith}
use Rattle.tl_types.specs.Resolving.{ids_of, unmatched_lines, unmatched_rows}
use Rattle.tl_batch.specs.Syncing.{UnmatchedLines, working_rows}
use Rattle.tl_batch.proofs.MatchingLemmas.{lines_end, lines_step, next_row, row_step, row_there, rows_end}
use Rattle.tl_batch.proofs.syncing.match_rows.Goals as goal

pub loop-row-preserved : goal.loop-row-preserved
loop-row-preserved g c =
    let r = (row_there c.args.table.now.rows (get_or c.args.rows.now c.loop-row.row-index 0) (c.requires.rows c.loop-row.row-index 0 (omega arith))) in
    let next = next_row c.args.table.now.rows c.args.rows.now c.loop-row.row-index (get_or c.args.rows.now c.loop-row.row-index 0) r.0 (omega arith) refl r.1 in
    let list = working_rows c.args.table.now.rows (drop (c.loop-row.row-index + 1) c.args.rows.now) in
    record {
      key = ap (λ (v : UnmatchedLines). v.key) (c.in_ok-matched.ensures.left r.0 r.1) ∙ c.loop-row.invariant.key;
      closes =
          row_step (get_or c.args.rows.now c.loop-row.row-index 0) r.0 list c.loop-row.lines c.match_row.new.self c.loop-row.closes.items c.close_unmatched.new.closes.items _ c.in_ok-matched.matched (c.in_ok-matched.ensures.matched r.0 r.1) (c.in_ok-matched.ensures.left r.0 r.1) c.in_ok-close_unmatched.ensures
          (sym (ap (λ ws. c.loop-row.closes.items ++ ids_of (unmatched_rows ws c.loop-row.lines.lines)) next) ∙ c.loop-row.invariant.closes);
      left = lines_step (get_or c.args.rows.now c.loop-row.row-index 0) r.0 list c.loop-row.lines c.match_row.new.self _ (c.in_ok-matched.ensures.left r.0 r.1) (sym (ap (λ ws. unmatched_lines ws c.loop-row.lines.lines) next) ∙ c.loop-row.invariant.left);
    }

pub returns-clause-closes : goal.returns-clause-closes
returns-clause-closes g c = rows_end c.args.table.now.rows c.args.rows.now c.loop-row.row-index c.loop-row.lines.lines c.loop-row.closes.items _ (let h = c.loop-row-test.false in omega arith) c.loop-row.invariant.closes

pub returns-clause-left : goal.returns-clause-left
returns-clause-left g c = lines_end c.args.table.now.rows c.args.rows.now c.loop-row.row-index c.loop-row.lines.lines _ (let h = c.loop-row-test.false in omega arith) c.loop-row.invariant.left
