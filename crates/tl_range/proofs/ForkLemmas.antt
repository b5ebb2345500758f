-- Results of a fork, of which each is a value.
use Rattle.std.proofs.Common.{◌≡◌, ℕ, zero, suc, List, [], ◌∷◌, map, get_or, Some, Result, Ok, IfOk, ap, subst, ◌∙◌, slice_get}

get_mapped : {X E : Type 0} (outs : List X) (i : ℕ) (out : X) (d : Result X E) → slice_get outs i ≡ Some out → get_or (map Ok outs) i d ≡ Ok out
get_mapped [] i out d is = absurd (cc)
get_mapped (x ∷ outs) zero out d is = let e : x ≡ out = cc in ap Ok e
get_mapped (x ∷ outs) (suc i) out d is = get_mapped outs i out d is

-- what holds of each result that is a value holds of the values
pub value_at : {X E : Type 0} (P : X → Type 0) (results : List (Result X E)) (outs : List X) (i : ℕ) (out : X) → results ≡ map Ok outs → slice_get outs i ≡ Some out → IfOk (get_or results i (Ok out)) P → P out
value_at P results outs i out all is holds =
    subst (λ r. IfOk r P) {y = Ok out} (ap (λ rs. get_or rs i (Ok out)) all ∙ get_mapped outs i out (Ok out) is) holds
