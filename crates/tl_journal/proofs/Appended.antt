-- A group of commits more.
use Rattle.std.proofs.Common.{◌≡◌, ℕ, ◌+◌, List, [], ◌∷◌, ◌++◌, length, sym, ◌∙◌, ap, subst, arith, append_assoc, length-append, Option}
use Rattle.tl_types.specs.declared.commits.Commit.{Commit}
use Rattle.tl_device.specs.Disk.{IsStored}
use Rattle.tl_journal.specs.Image.{header, IsBodyOfAll}
use Rattle.tl_journal.specs.Stands.{DiskStandsFor}
use Rattle.tl_journal.proofs.Grouped.{one_open, inner_of, last_gate, opens_all}

pub all_more : {D : Type 0} (reads : D → Option (List ℕ)) (may_leave : D → List ℕ → Type 0) (old new : D) (cs group : List Commit) (body : List ℕ) (gate : ℕ) (j : DiskStandsFor reads may_leave old cs gate) → IsBodyOfAll group body → IsStored reads may_leave new ((header ++ j.front) ++ 1 ∷ body) → DiskStandsFor reads may_leave new (cs ++ group) (gate + length body)
all_more reads may_leave old new cs group body gate j is stored =
    let body_is = is.1 ∙ last_gate group is.0 in
    record {
      front = j.front ++ 1 ∷ inner_of group;
      opens = opens_all cs group j.front 1 one_open is.0 j.opens;
      gate_is = moved (inner_of group) j.front body gate j.gate_is body_is;
      stored = subst (λ l. IsStored reads may_leave new l) (placed (inner_of group) j.front body body_is) stored;
    }
  where
    placed : (r front body : List ℕ) → body ≡ r ++ 0 ∷ [] → (header ++ front) ++ 1 ∷ body ≡ (header ++ (front ++ 1 ∷ r)) ++ 0 ∷ []
    placed r front body body_is = ap (λ l. (header ++ front) ++ 1 ∷ l) body_is ∙ sym (append_assoc (header ++ front) (1 ∷ r) (0 ∷ [])) ∙ ap (λ l. l ++ 0 ∷ []) (append_assoc header front (1 ∷ r))

    moved : (r front body : List ℕ) (gate : ℕ) → gate ≡ length (header ++ front) → body ≡ r ++ 0 ∷ [] → gate + length body ≡ length (header ++ (front ++ 1 ∷ r))
    moved r front body gate gate_is body_is = omega (arith, gate_is, ap length body_is, length-append r (0 ∷ []), length-append header front, length-append header (front ++ 1 ∷ r), length-append front (1 ∷ r))
