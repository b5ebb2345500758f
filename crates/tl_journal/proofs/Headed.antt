-- What stands up to the closed gate.
use Rattle.std.proofs.Common.{◌≡◌, inl, inr, ⊎_elim, ℕ, ◌+◌, List, [], ◌∷◌, ◌++◌, take, drop, sym, ◌∙◌, ap, subst, arith, append_assoc, length-append, Option}
use Rattle.std.proofs.lemmas.List.{take_at}
use Rattle.tl_types.specs.declared.commits.Commit.{Commit}
use Rattle.tl_device.specs.Disk.{IsStored, MayCut}
use Rattle.tl_journal.specs.Image.{header, ImageStandsFor}
use Rattle.tl_journal.specs.Opening.{HasReadTo}
use Rattle.tl_journal.specs.Stands.{DiskStandsFor, SameOrTrimmed}

-- what is left by the cut behind the closed gate
pub cut_image : (found : List Commit) (at : ℕ) (image tail : List ℕ) (was : HasReadTo found at image) → drop at image ≡ 0 ∷ tail → take (at + 1) image ≡ (header ++ was.front) ++ 0 ∷ []
cut_image found at image tail was e =
    ap (λ l. take (at + 1) l) (was.image_is ∙ ap (λ l. (header ++ was.front) ++ l) e ∙ sym (append_assoc (header ++ was.front) (0 ∷ []) tail))
    ∙ take_at ((header ++ was.front) ++ 0 ∷ []) tail (at + 1) (omega (arith, was.at_is, length-append (header ++ was.front) (0 ∷ [])))

pub cut_stands : (found : List Commit) (at : ℕ) (image tail c : List ℕ) → HasReadTo found at image → drop at image ≡ 0 ∷ tail → MayCut (at + 1) image c → ImageStandsFor found c
cut_stands found at image tail c was e m = ⊎_elim
    (λ same. (was.front, was.opens, (tail, same ∙ was.image_is ∙ ap (λ l. (header ++ was.front) ++ l) e)))
    (λ cut. (was.front, was.opens, ([], cut ∙ cut_image found at image tail was e)))
    m

pub journal_cut : {D : Type 0} (reads : D → Option (List ℕ)) (may_leave : D → List ℕ → Type 0) (disk : D) (found : List Commit) (at : ℕ) (image tail : List ℕ) → HasReadTo found at image → drop at image ≡ 0 ∷ tail → IsStored reads may_leave disk (take (at + 1) image) → DiskStandsFor reads may_leave disk found at
journal_cut reads may_leave disk found at image tail was e stored = record {
  front = was.front;
  opens = was.opens;
  gate_is = was.at_is;
  stored = subst (λ l. IsStored reads may_leave disk l) (cut_image found at image tail was e) stored;
}

pub same_or_trimmed : (found : List Commit) (at : ℕ) (image tail c : List ℕ) → HasReadTo found at image → drop at image ≡ 0 ∷ tail → MayCut (at + 1) image c → SameOrTrimmed image c
same_or_trimmed found at image tail c was e m = ⊎_elim
    (λ same. inl same)
    (λ cut. inr (found, was.front, was.opens, (tail, was.image_is ∙ ap (λ l. (header ++ was.front) ++ l) e), cut ∙ cut_image found at image tail was e))
    m
