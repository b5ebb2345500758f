use Rattle.std.proofs.Common.{◌-◌, ◌%◌, take, drop, sym, ap, ◌∙◌}
use Rattle.tl_column.proofs.WordLemmas.{code_list}
use Rattle.tl_column.proofs.text_column.TextColumn.codes_from.Goals as goal

pub returns-clause-codes : goal.returns-clause-codes
returns-clause-codes c =
    c.chunk_from.ensures.items
    ∙ ap (λ t. take (1024 - c.args.row % 1024) (drop c.args.row t)) (sym (code_list c.self.inside.dictionary c.self.inside.codes c.args.self.now c.self.invariant c.self.view_is))
