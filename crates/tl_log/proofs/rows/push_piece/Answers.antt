use Rattle.std.proofs.Common.{rules, ◌∙◌, arith}
use Rattle.tl_log.proofs.RowLemmas.{lines_more}
use Rattle.tl_log.proofs.rows.push_piece.Goals as goal

pub piece-init : goal.piece-init
piece-init g c = record {
  behind = omega arith;
  within = search rules;
  rows = lines_more c.args.table.now.schema c.args.table.now.rows c.args.first c.args.rows.now.rows c.push_row.new.rows.rows
      c.requires.first c.in_ok-bytes.ensures.rows;
  between = c.in_ok-bytes.ensures.between;
}

pub piece-preserved : goal.piece-preserved
piece-preserved g c = record {
  behind = search rules;
  within = search rules;
  rows = lines_more c.args.table.now.schema c.args.table.now.rows c.piece.next c.piece.rows.rows c.push_row-in-piece.new.rows.rows
      (search rules) c.in_ok-more.ensures.rows ∙ c.piece.invariant.rows;
  between = c.in_ok-more.ensures.between;
}
