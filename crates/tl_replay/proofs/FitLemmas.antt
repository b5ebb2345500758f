-- Commits that fit one after the other.
use Rattle.std.proofs.Common.{◌≡◌, true, false, List, [], ◌∷◌, ◌++◌, sym, ◌∙◌}
use Rattle.std.specs.List.{fold}
use Rattle.tl_types.specs.declared.commits.Commit.{Commit}
use Rattle.tl_types.specs.declared.limits.Limits.{Limits}
use Rattle.tl_types.specs.History.{database_of, nothing, after_commit, fits}
use Rattle.tl_types.specs.Plain as plain
use Rattle.tl_types.proofs.EntryLemmas.{fit_more}
use Rattle.tl_types.specs.Legality.{FitFrom, FitInTurn}

-- each one fits those before it
fit_at : (limits : Limits) (db : plain.Database) (before : List Commit) (c : Commit) (later : List Commit) → FitFrom limits db (before ++ c ∷ later) → fits limits (fold after_commit db before) c ≡ true
fit_at limits db [] c later fitting = fitting.0
fit_at limits db (d ∷ before) c later fitting = fit_at limits (after_commit db d) before c later fitting.1

-- commits with one more, which fits
pub fit_next : (limits : Limits) (commits : List Commit) (c : Commit) → FitInTurn limits commits → fits limits (database_of commits) c ≡ true → FitInTurn limits (commits ++ c ∷ [])
fit_next limits commits c fitting fit = fit_more limits nothing commits c fitting fit

-- where all commits fit, none of them does not fit
pub none_unfit : (limits : Limits) (before : List Commit) (c : Commit) (later : List Commit) → FitInTurn limits (before ++ c ∷ later) → fits limits (database_of before) c ≡ false → ⊥
none_unfit limits before c later fitting unfit =
    let fit = fit_at limits nothing before c later fitting in
    absurd (let e : true ≡ false = sym fit ∙ unfit in cc)
