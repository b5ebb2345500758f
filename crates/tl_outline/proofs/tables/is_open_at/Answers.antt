use Rattle.std.proofs.Common.{◌≡◌, false, ltb, length, refl, sym, ◌∙◌, get_or, arith}
use Rattle.std.proofs.lemmas.Bool.Decides.{nat_tests}
use Rattle.tl_outline.proofs.OutlineLemmas.{open_read, open_past}
use Rattle.tl_outline.proofs.tables.is_open_at.Goals as goal

pub returns-then-id-current : goal.returns-then-id-current
returns-then-id-current c =
    let bits = c.args.current.now in
    open_read bits c.args.id false (get_or bits c.args.id false) (omega arith) refl

pub returns-else-id-current : goal.returns-else-id-current
returns-else-id-current c =
    let none : ltb c.args.id (length c.args.current.now) ≡ false = grind (arith, nat_tests) in
    none ∙ sym (open_past c.args.current.now c.args.id (omega arith))
