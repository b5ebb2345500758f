use Rattle.std.proofs.Common.{◌≡◌, ◌+◌, ◌++◌, ◌∷◌, [], length, take, sym, ap, ◌∙◌, arith}
use Rattle.std.proofs.lemmas.List.{length-take, length-map}
use Rattle.std.proofs.lemmas.List.Sums.{fold-append}
use Rattle.tl_column.specs.Dictionary.{with_text, texts_of, lent_texts}
use Rattle.tl_column.proofs.Coding.{fold_short, pushed_cells, pushed_codes}
use Rattle.tl_column.proofs.Known.{lent_more}
use Rattle.tl_column.proofs.text_column.coded.Goals as goal

pub coded_text-requires-clause-few : goal.coded_text-requires-clause-few
coded_text-requires-clause-few c =
    let cells = take c.coding.cell-index c.args.cells.now in
    omega (
      arith,
      c.requires,
      c.coding-test.true,
      ap length c.coding.invariant.dictionary,
      fold_short (lent_texts cells) c.args.dictionary,
      length-map cells (λ cell. cell.now),
      length-take c.coding.cell-index c.args.cells.now,
    )

pub coding-preserved : goal.coding-preserved
coding-preserved c =
    let i = c.coding.cell-index in
    let cell = c.cell-item.result in
    let before = lent_texts (take i c.args.cells.now) in
    let old = c.coding.dictionary in
    let new = c.in_ok-next.next in
    let codes = c.coding.codes.items in
    let taken : lent_texts (take (i + 1) c.args.cells.now) ≡ before ++ cell.now ∷ [] = lent_more c.args.cells.now i cell c.coding-test.true c.cell-item.is in
    let grown : new ≡ with_text old cell.now = c.in_ok-next.ensures.texts in
    let added : texts_of new (c.in_ok-next.code ∷ []) ≡ cell.now ∷ [] = ap (λ t. t ∷ []) c.in_ok-next.ensures.code in
    rw (taken, c.in_ok-push.ensures.items)
    (record {
      dictionary =
          grown
          ∙ ap (λ ts. with_text ts cell.now) c.coding.invariant.dictionary
          ∙ sym (fold-append with_text c.args.dictionary before (cell.now ∷ []));
      cells = pushed_cells old new (cell.now ∷ []) codes (c.in_ok-next.code ∷ []) before grown c.coding.invariant.cells added c.coding.invariant.valid;
      valid = pushed_codes old new (cell.now ∷ []) codes (c.in_ok-next.code ∷ []) before grown c.coding.invariant.cells added c.coding.invariant.valid (c.in_ok-next.ensures.valid, tt);
      known = c.in_ok-next.ensures.known;
    })
