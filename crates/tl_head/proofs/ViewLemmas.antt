-- What a change of one view leaves of the others.
use Rattle.std.proofs.Common.{◌≡◌, ℕ, zero, suc, ◌≢◌, Bool, true, false, List, [], ◌∷◌, ◌++◌, set, sym, refl, ap, ◌∙◌, subst, ⊎_elim}
use mathlib.Core.Logic.{dite}
use mathlib.Core.Option.{some, some-injective, some-ne-none}
use native.Mathlib.Decide.{ℕ_discrete}
use lib.ListN.{get_elem?}
use Rattle.atomic_table.proofs.Lists.{at_set, set_else, at_longer}
use Rattle.tl_head.specs.declared.views.View.{View}
use Rattle.tl_head.specs.Views.{ticket_of}
use Rattle.tl_head.specs.Rule.{DoorState, FitsSeat, HasTicket}

pub not_true : (b : Bool) → ¬ (b ≡ true) → b ≡ false
not_true true n = absurd (n refl)
not_true false n = refl

-- what is written over an item is there
pub set_there : {A : Type 0} → (l : List A) (i : ℕ) (a b : A) → get_elem? l i ≡ some a → get_elem? (set l i b) i ≡ some b
set_there [] i a b e = absurd (some-ne-none a (sym e))
set_there (x ∷ xs) zero a b e = refl
set_there (x ∷ xs) (suc i) a b e = set_there xs i a b e

-- each seat fits where this one does and each other one still does
pub seats_fit : (d d' : DoorState) (vs : List View) (me : ℕ) (w : View) → FitsSeat d' me w → ((j : ℕ) (v : View) → j ≢ me → FitsSeat d j v → FitsSeat d' j v)
    → ((j : ℕ) (v : View) → get_elem? vs j ≡ some v → FitsSeat d j v) → (j : ℕ) (v : View) → get_elem? (set vs me w) j ≡ some v → FitsSeat d' j v
seats_fit d d' vs me w mine go all j v e = ⊎_elim
    (λ (t : (j ≡ me) × (w ≡ v)). subst (λ (x : ℕ × View). FitsSeat d' x.0 x.1) (λ i. (sym t.0 i, t.1 i)) mine)
    (λ (t : (j ≢ me) × (get_elem? vs j ≡ some v)). go j v t.0 (all j v t.1)) (at_set vs me j w v e)

-- a ticket stays where it is, where this seat keeps its own
pub ticket_stays : (vs : List View) (me : ℕ) (u w : View) (j n : ℕ) → get_elem? vs me ≡ some u → (ticket_of u.stage ≡ some n → ticket_of w.stage ≡ some n) → HasTicket vs j n → HasTicket (set vs me w) j n
ticket_stays vs me u w j n at keeps has = dite (ℕ_discrete j me)
    (λ here. let same : has.0 ≡ u = some-injective has.0 u (sym has.1 ∙ (ap (λ k. get_elem? vs k) here ∙ at)) in
    (w, ap (λ k. get_elem? (set vs me w) k) here ∙ set_there vs me u w at, keeps (subst (λ v. ticket_of v.stage ≡ some n) same has.2)))
    (λ else. (has.0, set_else vs me j w else ∙ has.1, has.2))

-- so it does where a seat is added
pub ticket_stays_longer : (vs more : List View) (j n : ℕ) → HasTicket vs j n → HasTicket (vs ++ more) j n
ticket_stays_longer vs more j n has = (has.0, at_longer vs more j has.0 has.1, has.2)
