use Rattle.std.proofs.Common.{rules, ◌≡◌, subst}
use Rattle.std.proofs.lemmas.Int.{to_z-of_z}
use mir.Syntax.{w64}
use mir.Val.{to_z, of_z}
use Rattle.tl_types.specs.History.{is_within}
use Rattle.tl_lanes.specs.Masks.{is_bit}
use Rattle.tl_exec.proofs.selects.word_with.Goals as goal

pub returns-clause-tells : goal.returns-clause-tells
returns-clause-tells g c =
    λ k r small is.
    let same : to_z w64 (of_z w64 c.args.moment) ≡ c.args.moment = to_z-of_z w64 c.args.moment (search rules) in
    subst (λ m. is_bit c.valid_word-bits.result k ≡ is_within m r.period) same (c.valid_word-bits.ensures.bits k r small is)
