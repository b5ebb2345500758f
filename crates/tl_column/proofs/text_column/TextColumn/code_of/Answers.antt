use Rattle.std.proofs.Common.{◌≡◌, sym, ap, ◌∙◌}
use Rattle.tl_column.specs.Dictionary.{code_in, dictionary_of}
use Rattle.tl_column.proofs.Coding.{text_found, found_exactly, dictionary_contains}
use Rattle.tl_column.proofs.text_column.TextColumn.code_of.Goals as goal

pub returns-clause-text : goal.returns-clause-text
returns-clause-text c =
    let dictionary : c.self.inside.dictionary ≡ dictionary_of c.args.self.now = c.self.invariant.first ∙ ap (λ cells. dictionary_of cells) c.self.view_is in
    text_found (dictionary_of c.args.self.now) c.args.text.now c.code.result (c.code.ensures ∙ ap (λ texts. code_in texts c.args.text.now) dictionary)

pub returns-clause-absent : goal.returns-clause-absent
returns-clause-absent c =
    let dictionary : c.self.inside.dictionary ≡ dictionary_of c.args.self.now = c.self.invariant.first ∙ ap (λ cells. dictionary_of cells) c.self.view_is in
    let found = found_exactly (dictionary_of c.args.self.now) c.args.text.now c.code.result (c.code.ensures ∙ ap (λ texts. code_in texts c.args.text.now) dictionary) in
    let same = dictionary_contains c.args.self.now c.args.text.now in
    (λ none. sym same ∙ found.0 none, λ lacks. found.1 (same ∙ lacks))
