use Rattle.std.proofs.Common.{◌≡◌, ◌∷◌, [], rules, w64, SFits, sym, subst}
use Rattle.std.proofs.lemmas.Int.{to_z-of_z}
use Rattle.tl_running.specs.Standing.{number_in, Suits}
use Rattle.tl_app.proofs.scans.number_of.Goals as goal

pub returns-in-Some-clause-number : goal.returns-in-Some-clause-number
returns-in-Some-clause-number g c =
    let fits : SFits w64 c.column_number.result = search rules in
    let whole = to_z-of_z w64 c.column_number.result fits in
    λ row is. rw whole (subst (λ col. (number_in col row ≡ c.column_number.result) × Suits c.args.plan.now.kind col (row ∷ [])) (sym c.in-Some.is)
    (c.column_number.ensures.number c.args.plan.now.kind row is))
