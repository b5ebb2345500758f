use Rattle.std.proofs.Common.{◌<◌, length, sym, ap, subst, arith}
use Rattle.std.proofs.lemmas.List.{length-map}
use Rattle.tl_column.specs.Dictionary.{text_of}
use Rattle.tl_column.proofs.Coding.{code_at}
use Rattle.tl_column.proofs.text_column.TextColumn.at.Goals as goal

pub text-requires : goal.text-requires
text-requires c =
    let here : c.args.row < length c.self.inside.codes = omega (arith, ap length c.self.view_is, length-map c.self.inside.codes (text_of c.self.inside.dictionary)) in
    subst (λ code. code < length c.self.inside.dictionary) (sym c.at.ensures)
    (code_at c.self.inside.dictionary c.self.inside.codes c.args.row c.at.result.now c.self.invariant.valid here)
