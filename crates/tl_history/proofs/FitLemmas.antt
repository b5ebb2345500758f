-- Commits that fit one after the other.
use Rattle.std.proofs.Common.{◌≡◌, ℕ, Bool, true, false, List, Option, [], ◌∷◌, ◌++◌, sym, ap, ◌∙◌, subst}
use Rattle.std.specs.Prelude.{Ok}
use Rattle.tl_types.specs.declared.commits.Commit.{Commit}
use Rattle.tl_types.specs.declared.commits.Entry.{Entry}
use Rattle.tl_types.specs.declared.limits.Limits.{Limits}
use Rattle.tl_types.specs.Entries.{commits_of}
use Rattle.tl_types.specs.History.{database_of, nothing, after_commit, fits}
use Rattle.tl_types.specs.Plain as plain
use Rattle.tl_types.specs.Marks.{paced_step}
use Rattle.tl_types.proofs.MarkLemmas.{break_step, commits_step, paced_commits}
use Rattle.std.proofs.lemmas.List.Sums.{fold-append}
use Rattle.tl_types.specs.Legality.{FitFrom, FitInTurn}
use Rattle.tl_batch.specs.KeyIndex.{IdsByKey}
use Rattle.tl_batch.specs.Made.{AreWithin}
use Rattle.tl_batch.specs.Standing.{StandFor}
use Rattle.tl_batch.proofs.CommitLemmas.{ok_within}
use Rattle.tl_replay.specs.Applying.{IsAppliedTo}
use Rattle.tl_history.specs.Replaying.{IsApplied, IsPaced, IsReplay}
use Rattle.tl_history.specs.declared.replaying.PacedReplay.{PacedReplay}

fit_from_within : (limits others : Limits) (db : plain.Database) (commits : List Commit) → AreWithin limits others → FitFrom limits db commits → FitFrom others db commits
fit_from_within limits others db [] within fitting = tt
fit_from_within limits others db (c ∷ commits) within fitting =
    (ok_within limits others db (Ok c) fitting.0 within, fit_from_within limits others (after_commit db c) commits within fitting.1)

-- commits that fit with some limits fit with larger ones
pub fit_within : (limits others : Limits) (commits : List Commit) → AreWithin limits others → FitInTurn limits commits → FitInTurn others commits
fit_within limits others commits within fitting = fit_from_within limits others nothing commits within fitting

-- what a replay keeps, with one commit more
pub replay_more : (k : ℕ) (old new : List Entry) (keys later : List (Option IdsByKey)) (store : List Commit) (c : Commit) → IsReplay old keys → new ≡ paced_step k old c → store ≡ commits_of old → StandFor later (database_of (store ++ c ∷ [])) → IsReplay new later
replay_more k old new keys later store c replay more is stand =
    subst (λ es. IsReplay es later) (sym more)
    (record {
      whole = break_step k old c ∙ replay.whole;
      keys_stand = subst (λ cs. StandFor later (database_of cs)) (ap (λ cs. cs ++ c ∷ []) is ∙ sym (commits_step k old c)) stand;
    })

-- a replay at a pace is what these commits make of the first one
abbrev pub paces : PacedReplay → List Commit → PacedReplay → Type 0
paces first commits last = IsPaced first.k commits last.replay last.k

-- one commit more at a pace: it fits and is appended, or it does not fit
pub paced_next : (limits : Limits) (pace : ℕ) (commits : List Commit) (first : PacedReplay) (old new : List Entry) (c : Commit) (fit : Bool) → IsPaced first.k commits old pace → IsApplied limits pace old new c fit → IsAppliedTo paces limits first commits c (record { replay = new; k = pace }) fit
paced_next limits pace commits first old new c true paced is =
    let same : commits_of old ≡ commits = ap commits_of paced.entries_are ∙ paced_commits commits first.k in (
      subst (λ cs. fits limits (database_of cs) c ≡ true) same is.0,
      record {
        entries_are = is.1 ∙ ap (λ n. paced_step n old c) paced.pace_same ∙ ap (λ es. paced_step first.k es c) paced.entries_are ∙ sym (fold-append (paced_step first.k) [] commits (c ∷ []));
        pace_same = paced.pace_same;
      },
    )
paced_next limits pace commits first old new c false paced is =
    let same : commits_of old ≡ commits = ap commits_of paced.entries_are ∙ paced_commits commits first.k in (
      subst (λ cs. fits limits (database_of cs) c ≡ false) same is.0,
      record { entries_are = is.1 ∙ paced.entries_are; pace_same = paced.pace_same },
    )
