use Rattle.std.proofs.Common.{length, refl}
use Rattle.std.proofs.lemmas.Option.{slice_get_read}
use Rattle.tl_csv.proofs.Lent.{plain_at}
use Rattle.tl_csv.proofs.lent_blocks.is_plain_at.Goals as goal

pub returns-in-Some-clause-first : goal.returns-in-Some-clause-first
returns-in-Some-clause-first c =
    let found = c.in-Some.ensures.lookup in
    let at = slice_get_read c.args.blocks.now (length c.args.blocks.now) c.args.place c.in-Some.block.now refl found.3.0 found.1 in
    λ is. plain_at c.args.blocks.now c.args.place c.in-Some.block.now at is
