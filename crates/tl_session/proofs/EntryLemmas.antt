-- Lists of entries, and their beginnings.
use Rattle.std.proofs.Common.{◌≡◌, ℕ, ◌+◌, ◌≤◌, ◌||◌, Bool, true, false, true≢false, List, [], ◌∷◌, ◌++◌, length, take, Option, Some, None, slice_get, refl, sym, ap, ◌∙◌, subst, arith, append-nil, length-append}
use Rattle.std.proofs.lemmas.List.{take-append-le}
use Rattle.std.proofs.lemmas.List.Elements.{filter_map-append}
use Rattle.std.proofs.lemmas.List.Folds.{list_any-append}
use Rattle.std.proofs.Math.Seq.{take-append_seam}
use mathlib.Core.List.{IsPrefix}
use Rattle.tl_types.specs.declared.commits.Commit.{Commit}
use Rattle.tl_types.specs.declared.commits.Entry.{Entry}
use Rattle.tl_types.specs.declared.commits.Entry.TheVariants as entry
use Rattle.tl_types.specs.Entries.{commit_of, commits_of, is_break, has_break}
use Rattle.tl_jobs.specs.Turns.{break_of}
use Rattle.tl_engine.specs.Counting.{news}
use Rattle.tl_types.specs.Legality.{may_follow, are_legal_behind, are_legal}
use Rattle.tl_types.proofs.Lists.{and_right}
use Rattle.tl_types.proofs.EntryLemmas.{legal_behind-append, none_behind_break}
use Rattle.tl_session.proofs.ListLemmas.{item_at}

-- a list begins with itself
pub begins_itself : (a : List Entry) → IsPrefix a a
begins_itself a = ([], append-nil a)

pub commits_split : (a b : List Entry) → commits_of (a ++ b) ≡ commits_of a ++ commits_of b
commits_split = filter_map-append commit_of

pub news_split : (a b : List Entry) → news (a ++ b) ≡ news a + news b
news_split [] b = omega arith
news_split (entry.Commit c ∷ a) b = omega (arith, news_split a b)
news_split (entry.Mark n v ∷ a) b = news_split a b
news_split (entry.Break c ∷ a) b = omega (arith, news_split a b)

pub fewer_commits : (a b : List Entry) → IsPrefix a b → length (commits_of a) ≤ length (commits_of b)
fewer_commits a b p = omega (arith, ap (λ l. length (commits_of l)) p.1, ap length (commits_split a p.0), length-append (commits_of a) (commits_of p.0))

pub fewer_news : (a b : List Entry) → IsPrefix a b → news a ≤ news b
fewer_news a b p = omega (arith, ap news p.1, news_split a p.0)

pub break_on : (a b : List Entry) → IsPrefix a b → has_break a ≡ true → has_break b ≡ true
break_on a b p is = sym (ap has_break p.1) ∙ list_any-append is_break a p.0 ∙ ap (λ t. t || has_break p.0) is

-- the first commits are those of a beginning
pub same_front : (a b : List Entry) (v : ℕ) → IsPrefix a b → v ≤ length (commits_of a) → take v (commits_of a) ≡ take v (commits_of b)
same_front a b v p le = sym (take-append-le v (commits_of a) (commits_of p.0) le) ∙ ap (take v) (sym (commits_split a p.0) ∙ ap commits_of p.1)

pub whole_front : (a b : List Entry) → IsPrefix a b → take (length (commits_of a)) (commits_of b) ≡ commits_of a
whole_front a b p = ap (take (length (commits_of a))) (sym (ap commits_of p.1) ∙ commits_split a p.0) ∙ take-append_seam (commits_of a) (commits_of p.0)

-- BREAKS

-- nothing stands behind a break of legal entries
after_break : (a b : List Entry) → has_break a ≡ true → are_legal (a ++ b) ≡ true → b ≡ []
after_break a b is l = none_behind_break a b is (legal_behind-append [] a b l)

-- all commits are there once a break is
pub all_there : (a b : List Entry) → IsPrefix a b → has_break a ≡ true → are_legal b ≡ true → commits_of a ≡ commits_of b
all_there a b p is l =
    let none = after_break a p.0 is (subst (λ es. are_legal es ≡ true) (sym p.1) l) in
    ap commits_of (sym (append-nil a) ∙ ap (λ z. a ++ z) (sym none) ∙ p.1)

-- no break stands before an entry
pub unbroken : (a : List Entry) (e : Entry) (b : List Entry) → are_legal (a ++ e ∷ b) ≡ true → has_break a ≡ false
unbroken a e b l = by_test (has_break a) refl where
  by_test : (t : Bool) → has_break a ≡ t → has_break a ≡ false
  by_test true is = absurd (let none = after_break a (e ∷ b) is l in cc)
  by_test false is = is

-- a break is there once it stands last
pub break_behind : (before : List Entry) (c : Commit) → has_break (before ++ entry.Break c ∷ []) ≡ true
break_behind before c = list_any-append is_break before (entry.Break c ∷ []) ∙ last (has_break before) where
  last : (b : Bool) → (b || (true || false)) ≡ true
  last true = refl
  last false = refl

pub news_are : (a : List Entry) → has_break a ≡ false → news a ≡ length (commits_of a)
news_are [] none = refl
news_are (entry.Commit c ∷ a) none = omega (arith, news_are a none)
news_are (entry.Mark n v ∷ a) none = news_are a none
news_are (entry.Break c ∷ a) none = absurd (true≢false none)

pub break_found : (a : List Entry) (c : Commit) (b : List Entry) → has_break a ≡ false → break_of (a ++ entry.Break c ∷ b) ≡ Some c
break_found [] c b none = refl
break_found (entry.Commit d ∷ a) c b none = break_found a c b none
break_found (entry.Mark n v ∷ a) c b none = break_found a c b none
break_found (entry.Break d ∷ a) c b none = absurd (true≢false none)

pub break_there : (a b : List Entry) → has_break a ≡ true → (c : Commit) × (break_of (a ++ b) ≡ Some c)
break_there [] b is = absurd (true≢false (sym is))
break_there (entry.Commit d ∷ a) b is = break_there a b is
break_there (entry.Mark n v ∷ a) b is = break_there a b is
break_there (entry.Break d ∷ a) b is = (d, refl)

pub break_there_on : (a b : List Entry) → IsPrefix a b → has_break a ≡ true → (c : Commit) × (break_of b ≡ Some c)
break_there_on a b p is = let r = break_there a p.0 is in (r.0, ap break_of (sym p.1) ∙ r.1)

abbrev pub one_for : Option Commit → ℕ
one_for None = 0
one_for (Some c) = 1

news_behind : (before es : List Entry) → are_legal_behind before es ≡ true → news es ≡ length (commits_of es) + one_for (break_of es)
news_behind before [] h = refl
news_behind before (entry.Commit c ∷ es) h = omega (arith, news_behind (before ++ entry.Commit c ∷ []) es (and_right (may_follow before (entry.Commit c)) (are_legal_behind (before ++ entry.Commit c ∷ []) es) h))
news_behind before (entry.Mark n v ∷ es) h = news_behind (before ++ entry.Mark n v ∷ []) es (and_right (may_follow before (entry.Mark n v)) (are_legal_behind (before ++ entry.Mark n v ∷ []) es) h)
news_behind before (entry.Break c ∷ es) h =
    let rest = and_right (may_follow before (entry.Break c)) (are_legal_behind (before ++ entry.Break c ∷ []) es) h in
    let none = none_behind_break (before ++ entry.Break c ∷ []) es (break_behind before c) rest in
    subst (λ (fs : List Entry). news (entry.Break c ∷ fs) ≡ length (commits_of (entry.Break c ∷ fs)) + 1) (sym none) refl

pub news_count : (a : List Entry) → are_legal a ≡ true → news a ≡ length (commits_of a) + one_for (break_of a)
news_count a h = news_behind [] a h

-- the commit of an entry stands at the number of commits before it
pub placed : (a : List Entry) (c : Commit) (rest all : List Entry) → a ++ entry.Commit c ∷ rest ≡ all → slice_get (commits_of all) (length (commits_of a)) ≡ Some c
placed a c rest all is = ap (λ l. slice_get l (length (commits_of a))) (sym (ap commits_of is) ∙ commits_split a (entry.Commit c ∷ rest)) ∙ item_at (commits_of a) c (commits_of rest) (length (commits_of a)) refl
