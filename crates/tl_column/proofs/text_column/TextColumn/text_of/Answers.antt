use Rattle.std.proofs.Common.{◌≡◌, sym, ap, ◌∙◌}
use Rattle.tl_column.specs.Dictionary.{text_of, dictionary_of}
use Rattle.tl_column.proofs.Coding.{one_code, dictionary_distinct}
use Rattle.tl_column.proofs.text_column.TextColumn.text_of.Goals as goal

pub returns-clause-code : goal.returns-clause-code
returns-clause-code c =
    let dictionary : c.self.inside.dictionary ≡ dictionary_of c.args.self.now = c.self.invariant.first ∙ ap (λ cells. dictionary_of cells) c.self.view_is in
    one_code (dictionary_of c.args.self.now) c.text.result.now c.args.code (dictionary_distinct c.args.self.now) c.requires
    (ap (λ texts. text_of texts c.args.code) (sym dictionary) ∙ sym c.text.ensures.text)
