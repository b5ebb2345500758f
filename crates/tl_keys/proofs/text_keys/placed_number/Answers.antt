use Rattle.std.proofs.Common.{◌/◌, length, refl, sym, ◌∙◌}
use Rattle.std.proofs.lemmas.Option.{slice_get_read}
use Rattle.tl_keys.proofs.TextLemmas.{placed_equal}
use Rattle.tl_keys.proofs.text_keys.placed_number.Goals as goal

pub returns-in-Some : goal.returns-in-Some
returns-in-Some c =
    let found = c.in-Some.ensures.lookup in
    let is = slice_get_read c.args.placed.now (length c.args.placed.now) (c.text_place.result / 4194304) c.in-Some.there.now refl found.3.0 found.1 in
    placed_equal c.args.placed.now (c.text_place.result / 4194304) c.in-Some.there.now c.args.key.now is (sym c.eq.ensures ∙ c.if-eq.true)
