use Rattle.std.proofs.Common.{◌-◌, ◌*◌, ap, ◌∙◌, arith}
use Rattle.std.proofs.lemmas.Nat.{one_shl}
use Rattle.std.proofs.lemmas.Bool.Decides.{nat_tests}
use Rattle.tl_lanes.specs.Masks.{is_bit}
use Rattle.tl_filter.proofs.WordLemmas.{bit_of_ones}
use Rattle.tl_filter.proofs.words.all_word.Goals as goal

pub returns-then-left-lt64 : goal.returns-then-left-lt64
returns-then-left-lt64 c k small =
    let left = c.args.rows - 64 * c.args.i in
    ap (λ n. is_bit (n - 1) k) (one_shl left 64 c.if-left-lt64.true) ∙ bit_of_ones left k ∙ grind (arith, nat_tests)

pub returns-else-left-lt64 : goal.returns-else-left-lt64
returns-else-left-lt64 c k small = bit_of_ones 64 k ∙ grind (arith, nat_tests)
