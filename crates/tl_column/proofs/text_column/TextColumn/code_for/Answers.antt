use Rattle.std.proofs.Common.{[], length, ap, arith}
use Rattle.std.proofs.lemmas.List.{length-map}
use Rattle.tl_column.specs.Dictionary.{text_of}
use Rattle.tl_column.proofs.Coding.{fold_short}
use Rattle.tl_column.proofs.WordLemmas.{own_texts}
use Rattle.tl_column.proofs.text_column.TextColumn.code_for.Goals as goal

pub len-requires : goal.len-requires
len-requires c =
    let xs = c.args.self.now in
    let texts = c.self.inside.dictionary in
    omega (arith, ap length (own_texts texts c.self.inside.codes xs c.self.invariant c.self.view_is), fold_short xs [], ap length c.self.view_is, length-map c.self.inside.codes (text_of texts), c.self.invariant.few)
