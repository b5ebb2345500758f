use Rattle.std.proofs.Common.{rules, ◌≡◌, subst, ◌+◌, ◌*◌, ◌/◌, ap, sym, ◌∙◌, arith, slice_get}
use Rattle.std.proofs.lemmas.Int.{to_z-of_z}
use mir.Syntax.{w64}
use mir.Val.{to_z, of_z}
use Rattle.tl_types.specs.History.{is_within}
use Rattle.tl_lanes.specs.Masks.{is_bit}
use Rattle.tl_store.proofs.MaskLemmas.{rows_there, table_shown}
use Rattle.tl_store.proofs.store.Store.valid_word.Goals as goal

pub returns-clause-bits : goal.returns-clause-bits
returns-clause-bits g c =
    λ k r small is.
    let same : to_z w64 (of_z w64 c.args.moment) ≡ c.args.moment = to_z-of_z w64 c.args.moment (search rules) in
    let place = 64 * (c.args.row / 64) + k in
    let there = rows_there c.self.inside.tables.items c.self.inside.log c.self.inside.stamps c.args.self.now c.args.table c.self.invariant c.self.view_is (omega (arith, c.requires)) in
    let shown = table_shown c.self.inside.tables.items c.self.inside.log c.self.inside.stamps c.args.self.now c.args.table c.self.invariant c.self.view_is c.index.result.now c.get.result.now there c.index.ensures c.get.ensures in
    subst (λ m. is_bit c.valid_word.result k ≡ is_within m r.period) same (c.valid_word.ensures k r small (ap (λ rows. slice_get rows place) (sym shown.rows) ∙ is))
