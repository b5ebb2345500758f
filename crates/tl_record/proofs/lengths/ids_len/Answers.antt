use Rattle.std.proofs.Common.{arith}
use Rattle.std.proofs.lemmas.List.Elements.{recursion_from_All, All-from_get_or}
use Rattle.tl_record.specs.Spelling.{IsNumber}
use Rattle.tl_record.proofs.Sizes.{length-ids}
use Rattle.tl_record.proofs.lengths.ids_len.Goals as goal

pub returns-clause-len : goal.returns-clause-len
returns-clause-len c = length-ids c.args.ids.now

pub returns-clause-fits : goal.returns-clause-fits
returns-clause-fits c = recursion_from_All IsNumber c.args.ids.now
    (All-from_get_or IsNumber c.args.ids.now 0 (λ i below. omega (arith, c.type_inv.ids i)))
