use Rattle.std.proofs.Common.{◌≡◌, ◌++◌, [], length, fold, sym, ap, ◌∙◌, subst, arith}
use Rattle.std.proofs.lemmas.List.{length-map}
use Rattle.tl_column.specs.Dictionary.{with_text, texts_of, AreCodes, IsCoded, lent_texts}
use Rattle.tl_column.proofs.Coding.{fold_short, pushed_cells, pushed_coded}
use Rattle.tl_column.proofs.text_column.TextColumn.append_lent.Goals as goal

pub coded-requires : goal.coded-requires
coded-requires c =
    let old = c.self.inside.dictionary in
    let xs = texts_of old c.self.inside.codes in
    omega (arith, ap length c.self.invariant.first, fold_short xs [], ap length c.self.view_is, c.requires)

pub invariant_of-result : goal.invariant_of-result
invariant_of-result c =
    let old = c.self.inside.dictionary in
    let new = c.in_ok-settle.field-0 in
    let cells = lent_texts c.args.cells.now in
    let codes = c.self.inside.codes in
    let more = c.in_ok-dictionary.more.items in
    let grown : new ≡ fold with_text old cells =
    c.in_ok-settle.ensures
    ∙ c.in_ok-dictionary.ensures.dictionary in
    let added : texts_of new more ≡ cells = ap (λ ts. texts_of ts more) c.in_ok-settle.ensures ∙ c.in_ok-dictionary.ensures.cells in
    let all : c.in_ok-append.field-0 ≡ codes ++ more = c.in_ok-append.ensures ∙ ap (λ t. codes ++ t) c.as_slice.ensures.value in
    let fresh : AreCodes new more = subst (λ ts. AreCodes ts more) (sym c.in_ok-settle.ensures) c.in_ok-dictionary.ensures.valid in
    subst (λ cs. IsCoded new cs) (sym all)
    (pushed_coded old new cells codes more c.args.self grown c.self.view_is added c.self.invariant fresh (omega (arith, c.requires, length-map c.args.cells.now (λ cell. cell.now))))

pub returns : goal.returns
returns c =
    let old = c.self.inside.dictionary in
    let new = c.in_ok-settle.field-0 in
    let cells = lent_texts c.args.cells.now in
    let codes = c.self.inside.codes in
    let more = c.in_ok-dictionary.more.items in
    let grown : new ≡ fold with_text old cells =
    c.in_ok-settle.ensures
    ∙ c.in_ok-dictionary.ensures.dictionary in
    let added : texts_of new more ≡ cells = ap (λ ts. texts_of ts more) c.in_ok-settle.ensures ∙ c.in_ok-dictionary.ensures.cells in
    let all : c.in_ok-append.field-0 ≡ codes ++ more = c.in_ok-append.ensures ∙ ap (λ t. codes ++ t) c.as_slice.ensures.value in
    ap (λ cs. texts_of new cs) all
    ∙ pushed_cells old new cells codes more c.args.self grown c.self.view_is added c.self.invariant.valid
