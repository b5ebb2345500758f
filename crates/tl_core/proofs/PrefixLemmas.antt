-- Whether a list is legal, entry by entry.
use Rattle.std.proofs.Common.{◌≡◌, ℕ, ◌+◌, ◌<◌, Bool, true, ◌&&◌, List, [], ◌∷◌, ◌++◌, length, get_or, take, drop, sym, ap, ◌∙◌}
use Rattle.std.proofs.lemmas.List.{at_drop_more, take_more}
use Rattle.tl_types.specs.declared.commits.Commit.{Commit}
use Rattle.tl_types.specs.declared.commits.Entry.{Entry}
use Rattle.tl_types.specs.Entries.{commits_of, is_break, has_break}
use Rattle.tl_types.specs.Legality.{may_follow, are_legal_behind, are_legal}
use Rattle.tl_types.proofs.EntryLemmas.{commits_more}
use Rattle.tl_core.proofs.KeptLemmas.{broken_is}

-- the entries so far are legal, and so the list is where the others may stand behind them
abbrev pub IsLegalTo : List Entry → ℕ → Type 0
IsLegalTo es i = are_legal es ≡ are_legal_behind (take i es) (drop i es)

module _ (es : List Entry) (i : ℕ) (e : Entry) (l : i < length es) (s : e ≡ get_or es i e) where
  -- the entries up to this one
  abbrev pub with_this : List Entry
  with_this = take i es ++ e ∷ []

  up_to : take (i + 1) es ≡ with_this
  up_to = take_more es i e l ∙ ap (λ (f : Entry). take i es ++ f ∷ []) (sym s)

  one_more : IsLegalTo es i → are_legal es ≡ (may_follow (take i es) e && are_legal_behind with_this (drop (i + 1) es))
  one_more h =
      h ∙ at_drop_more (are_legal_behind (take i es)) es i e l
      ∙ ap (λ (f : Entry). may_follow (take i es) f && are_legal_behind (take i es ++ f ∷ []) (drop (i + 1) es)) (sym s)

  pub goes_on_legal : IsLegalTo es i → may_follow (take i es) e ≡ true → IsLegalTo es (i + 1)
  goes_on_legal h m =
      one_more h ∙ ap (λ b. b && are_legal_behind with_this (drop (i + 1) es)) m
      ∙ ap (λ fs. are_legal_behind fs (drop (i + 1) es)) (sym up_to)

  pub break_is : may_follow (take i es) e ≡ true → is_break e ≡ has_break (take (i + 1) es)
  break_is m = broken_is (take i es) e m ∙ ap has_break (sym up_to)

-- the state of the loop over a list, one entry on
pub one_entry_more : (es before : List Entry) (i : ℕ) (e : Entry) (store next : List Commit) (broken m : Bool) → i < length es → e ≡ get_or es i e → before ≡ take i es → m ≡ may_follow before e → m ≡ true → store ≡ commits_of (take i es) → next ≡ store ++ commits_of (e ∷ []) → broken ≡ is_break e → IsLegalTo es i → (next ≡ commits_of (take (i + 1) es)) × (broken ≡ has_break (take (i + 1) es)) × IsLegalTo es (i + 1)
one_entry_more es before i e store next broken m l s front test holds k n b h =
    let follows : may_follow (take i es) e ≡ true = ap (λ fs. may_follow fs e) (sym front) ∙ sym test ∙ holds in
    (n ∙ ap (λ cs. cs ++ commits_of (e ∷ [])) k ∙ sym (commits_more es i e l s), b ∙ break_is es i e l s follows, goes_on_legal es i e l s h follows)
