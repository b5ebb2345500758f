-- The commits and the break of a list of entries.
use Rattle.std.proofs.Common.{◌≡◌, true, false, List, [], ◌∷◌, ◌++◌, Some, None, is_some, refl, ap, sym, ◌∙◌, append-nil}
use Rattle.std.specs.declared.option.Option.{Option}
use Rattle.tl_types.specs.declared.commits.Commit.{Commit}
use Rattle.tl_types.specs.declared.commits.Entry.{Entry}
use Rattle.tl_types.specs.declared.commits.Entry.TheVariants as entry
use Rattle.tl_types.specs.Entries.{commits_of, has_break}
use Rattle.tl_jobs.specs.Turns.{break_of}
use Rattle.tl_session.proofs.EntryLemmas.{break_behind}
use Rattle.tl_types.specs.Legality.{may_follow, are_legal_behind, are_legal}
use Rattle.tl_types.proofs.Lists.{and_right}
use Rattle.tl_types.proofs.EntryLemmas.{none_behind_break}
use Rattle.tl_history.specs.Lists.{tried_commits}

pub break_none : (es : List Entry) → has_break es ≡ false → break_of es ≡ None
break_none [] h = refl
break_none (entry.Commit c ∷ es) h = break_none es h
break_none (entry.Mark n v ∷ es) h = break_none es h
break_none (entry.Break c ∷ es) h = absurd (cc)

pub break_some : (es : List Entry) → has_break es ≡ true → (c : Commit) × (break_of es ≡ Some c)
break_some [] h = absurd (cc)
break_some (entry.Commit c ∷ es) h = break_some es h
break_some (entry.Mark n v ∷ es) h = break_some es h
break_some (entry.Break c ∷ es) h = (c, refl)

pub has_break_is : (es : List Entry) → has_break es ≡ is_some (break_of es)
has_break_is [] = refl
has_break_is (entry.Commit c ∷ es) = has_break_is es
has_break_is (entry.Mark n v ∷ es) = has_break_is es
has_break_is (entry.Break c ∷ es) = refl

-- THE BREAK COMES LAST

abbrev broken_list : Option Commit → List Commit
broken_list None = []
broken_list (Some c) = c ∷ []

pub tried_is : (before es : List Entry) → are_legal_behind before es ≡ true → tried_commits es ≡ commits_of es ++ broken_list (break_of es)
tried_is before [] h = refl
tried_is before (entry.Commit c ∷ es) h = ap (λ cs. c ∷ cs) (tried_is (before ++ entry.Commit c ∷ []) es (and_right (may_follow before (entry.Commit c)) (are_legal_behind (before ++ entry.Commit c ∷ []) es) h))
tried_is before (entry.Mark n v ∷ es) h = tried_is (before ++ entry.Mark n v ∷ []) es (and_right (may_follow before (entry.Mark n v)) (are_legal_behind (before ++ entry.Mark n v ∷ []) es) h)
tried_is before (entry.Break c ∷ es) h =
    let none = none_behind_break (before ++ entry.Break c ∷ []) es (break_behind before c) (and_right (may_follow before (entry.Break c)) (are_legal_behind (before ++ entry.Break c ∷ []) es) h) in
    ap (λ xs. tried_commits (entry.Break c ∷ xs)) none ∙ sym (ap (λ xs. commits_of (entry.Break c ∷ xs) ++ c ∷ []) none)

pub tried_none : (es : List Entry) → are_legal es ≡ true → break_of es ≡ None → tried_commits es ≡ commits_of es
tried_none es h none = tried_is [] es h ∙ (ap (λ o. commits_of es ++ broken_list o) none ∙ append-nil (commits_of es))

pub tried_some : (es : List Entry) (c : Commit) → are_legal es ≡ true → break_of es ≡ Some c → tried_commits es ≡ commits_of es ++ c ∷ []
tried_some es c h some = tried_is [] es h ∙ ap (λ o. commits_of es ++ broken_list o) some
