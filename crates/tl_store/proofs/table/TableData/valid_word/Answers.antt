use Rattle.std.proofs.Common.{rules, subst, ◌≡◌, ◌+◌, ◌*◌, ap, sym, ◌∙◌, arith, slice_get}
use Rattle.std.proofs.lemmas.Option.{slice_get_within}
use Rattle.tl_types.specs.History.{is_within}
use Rattle.tl_store.specs.Kept.{Kept}
use Rattle.std.proofs.lemmas.Int.{to_z-of_z}
use mir.Syntax.{w64}
use mir.Val.{to_z, of_z}
use Rattle.tl_lanes.specs.Masks.{is_bit}
use Rattle.tl_store.proofs.PeriodLemmas.{period_shown}
use Rattle.tl_store.proofs.RowLemmas.{rows_number, row_at}
use Rattle.tl_store.proofs.table.TableData.valid_word.Goals as goal

pub returns : goal.returns
returns c =
    λ k r small is.
    let same : to_z w64 (of_z w64 c.args.moment) ≡ c.args.moment = to_z-of_z w64 c.args.moment (search rules) in
    let t = c.self.inside in
    let place = 64 * c.args.i + k in
    let rows = ap (λ (k : Kept). k.rows) c.self.view_is in
    let number = rows_number t.columns.items t.periods t.from t.to c.args.self.now.rows rows c.self.invariant.even in
    let within = slice_get_within c.args.self.now.rows place r is in
    let row = row_at t.columns.items t.periods t.from t.to c.args.self.now.rows place 0 0 rows c.self.invariant.even (omega (arith, within, number)) in
    subst (λ m. is_bit c.mask_word.result k ≡ is_within m (slice_get t.periods place)) same (c.mask_word.ensures k small) ∙ ap (is_within c.args.moment) (period_shown r _ (sym is ∙ row))
