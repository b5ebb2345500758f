use Rattle.std.proofs.Common.{◌<◌, ◌&&◌, ◌||◌, length, drop, true, arith, get_or, refl, slice_get, subst, sym, ap, ◌∙◌}
use Rattle.std.specs.List.{All}
use Rattle.std.proofs.lemmas.List.Elements.{All-drop}
use Rattle.tl_types.specs.History.{has_id}
use Rattle.tl_batch.specs.Covers.{is_covered}
use Rattle.tl_batch.specs.Pieces.{affected_by}
use Rattle.tl_batch.proofs.AffectLemmas.{of_key-within, row_added, rows_added}
use Rattle.tl_batch.proofs.affected.add_rows.Goals as goal

pub rows_apart-apart-requires-clause-rows : goal.rows_apart-apart-requires-clause-rows
rows_apart-apart-requires-clause-rows g c = of_key-within c.args.table.now.schema.key c.args.key.now c.args.table.now.rows c.fill_ids.new.ids c.as_slice-rest.result.now c.as_slice-rest.ensures c.in_ok-fill_ids.ensures

pub rows-init : goal.rows-init
rows-init g c = record {
  within = of_key-within c.args.table.now.schema.key c.args.key.now c.args.table.now.rows c.fill_ids.new.ids c.as_slice-rest.result.now c.as_slice-rest.ensures c.in_ok-fill_ids.ensures;
  apart = λ lines full same. c.rows_apart-apart.ensures lines full (λ t. ap (is_covered t) c.new-cover.ensures ∙ same t);
  affected = λ lines full same n. ap (λ b. (b && affected_by true lines (slice_get c.args.table.now.rows n)) || has_id c.args.affected.now n) (ap (λ ids. has_id ids n) c.as_slice-rest.ensures ∙ c.in_ok-fill_ids.ensures n);
}

pub rows-preserved : goal.rows-preserved
rows-preserved g c = record {
  within = subst (All (λ row. row < length c.args.table.now.rows)) (sym (c.split_at-in-rows.ensures.back ∙ ap (drop 1) c.split_at.ensures.back)) (All-drop (λ row. row < length c.args.table.now.rows) 1 (drop c.rows.apart c.rows.rest.now) (All-drop (λ row. row < length c.args.table.now.rows) c.rows.apart c.rows.rest.now c.rows.invariant.within));
  apart = λ lines full same. c.rows_apart-apart-in-rows.ensures lines full (λ t. ap (is_covered t) c.new-cover.ensures ∙ same t);
  affected = λ lines full same n. row_added lines c.args.table.now.rows c.rows.rest.now c.split_at.result.1.now c.split_at-in-rows.result.1.now c.rows.apart (get_or c.split_at.result.1.now 0 0) n c.rows.affected c.add.new.self _ (c.rows.invariant.apart lines full same) (omega arith) c.split_at.ensures.back refl c.split_at-in-rows.ensures.back (c.in_ok-add.ensures n) (c.rows.invariant.affected lines full same n);
}

pub returns : goal.returns
returns g c = λ lines full same n. rows_added lines c.args.table.now.rows c.rows.rest.now c.rows.apart n c.rows.affected _ (c.rows.invariant.apart lines full same) (omega arith) (c.rows.invariant.affected lines full same n)
