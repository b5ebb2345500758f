use Rattle.std.proofs.Common.{◌≡◌, ◌<◌, [], length, get_or, sym, ap, ◌∙◌, subst, arith}
use Rattle.std.proofs.lemmas.List.{length-map, get_or-map}
use Rattle.tl_column.specs.Dictionary.{text_of, dictionary_of}
use Rattle.tl_column.proofs.Coding.{code_at, one_code, dictionary_distinct}
use Rattle.tl_column.proofs.text_column.TextColumn.code_at.Goals as goal

pub returns-clause-valid : goal.returns-clause-valid
returns-clause-valid c =
    let dictionary : c.self.inside.dictionary ≡ dictionary_of c.args.self.now = c.self.invariant.first ∙ ap (λ cells. dictionary_of cells) c.self.view_is in
    let here : c.args.row < length c.self.inside.codes = omega (arith, ap length c.self.view_is, length-map c.self.inside.codes (text_of c.self.inside.dictionary)) in
    let valid : c.at.result.now < length c.self.inside.dictionary =
    subst (λ code. code < length c.self.inside.dictionary) (sym c.at.ensures)
    (code_at c.self.inside.dictionary c.self.inside.codes c.args.row c.at.result.now c.self.invariant.valid here) in
    omega (arith, ap length dictionary)

pub returns-clause-code : goal.returns-clause-code
returns-clause-code c =
    let dictionary : c.self.inside.dictionary ≡ dictionary_of c.args.self.now = c.self.invariant.first ∙ ap (λ cells. dictionary_of cells) c.self.view_is in
    let cells = dictionary_of c.args.self.now in
    let here : c.args.row < length c.self.inside.codes = omega (arith, ap length c.self.view_is, length-map c.self.inside.codes (text_of c.self.inside.dictionary)) in
    let valid : c.at.result.now < length c.self.inside.dictionary =
    subst (λ code. code < length c.self.inside.dictionary) (sym c.at.ensures)
    (code_at c.self.inside.dictionary c.self.inside.codes c.args.row c.at.result.now c.self.invariant.valid here) in
    let read : text_of c.self.inside.dictionary c.at.result.now ≡ get_or c.args.self.now c.args.row [] =
    ap (text_of c.self.inside.dictionary) c.at.ensures
    ∙ sym (get_or-map (text_of c.self.inside.dictionary) c.self.inside.codes c.args.row c.at.result.now [] here)
    ∙ ap (λ xs. get_or xs c.args.row []) c.self.view_is in
    sym (one_code cells (get_or c.args.self.now c.args.row []) c.at.result.now (dictionary_distinct c.args.self.now) (omega (arith, ap length dictionary))
    (ap (λ texts. text_of texts c.at.result.now) (sym dictionary) ∙ read))
