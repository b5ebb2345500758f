-- The commits found, in a list.
use Rattle.std.proofs.Common.{◌≡◌, ℕ, ◌+◌, List, [], ◌∷◌, ◌++◌, length, sym, refl, ◌∙◌, ap, subst, arith}
use Rattle.tl_record.specs.Spelling.{spelling}
use Rattle.tl_journal.specs.Image.{size_of}
use Rattle.tl_journal.specs.Opening.{HasReadTo, commits_found, HaveGatesFrom}
use Rattle.tl_journal.specs.declared.found.Found.{Found}
use Rattle.tl_journal.proofs.Scans.{size_of-snoc}

commits_found-snoc : (found : List Found) (f : Found) → commits_found (found ++ f ∷ []) ≡ commits_found found ++ f.commit ∷ []
commits_found-snoc [] f = refl
commits_found-snoc (x ∷ found) f = ap (λ l. x.commit ∷ l) (commits_found-snoc found f)

gates_more : (found : List Found) (f : Found) (first : ℕ) → HaveGatesFrom first found → f.at ≡ first + size_of (commits_found found) → HaveGatesFrom first (found ++ f ∷ [])
gates_more [] f first h is = (is ∙ omega arith, tt)
gates_more (x ∷ found) f first h is = (h.0, gates_more found f (first + (1 + length (spelling x.commit))) h.1 (shifted f.at first (length (spelling x.commit)) (size_of (commits_found found)) is))
  where
    shifted : (at first r n : ℕ) → at ≡ first + (1 + r + n) → at ≡ first + (1 + r) + n
    shifted at first r n is = omega (arith, is)

-- one commit more was found
pub one_found : (found later : List Found) (f : Found) (at end first : ℕ) (image : List ℕ) → later ≡ found ++ f ∷ [] → HasReadTo (commits_found found ++ f.commit ∷ []) end image → HaveGatesFrom first found → at ≡ first + size_of (commits_found found) → f.at ≡ at → end ≡ at + (1 + length (spelling f.commit)) → HasReadTo (commits_found later) end image × HaveGatesFrom first later × (end ≡ first + size_of (commits_found later))
one_found found later f at end first image pushed read gates is gate on =
    let names : commits_found later ≡ commits_found found ++ f.commit ∷ [] = ap (λ l. commits_found l) pushed ∙ commits_found-snoc found f in (
      subst (λ l. HasReadTo l end image) (sym names) read,
      subst (λ l. HaveGatesFrom first l) (sym pushed) (gates_more found f first gates (gate ∙ is)),
      ended end at first (size_of (commits_found found)) (length (spelling f.commit)) (size_of (commits_found later)) is on (ap (λ l. size_of l) names ∙ size_of-snoc (commits_found found) f.commit),
    )
  where
    ended : (end at first n r m : ℕ) → at ≡ first + n → end ≡ at + (1 + r) → m ≡ n + (1 + r) → end ≡ first + m
    ended end at first n r m is on more = omega (arith, is, on, more)
