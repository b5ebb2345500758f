use Rattle.std.proofs.Common.{rules, ◌≡◌, ℕ, List, [], ◌∷◌, ap, sym, ◌∙◌, Some, subst}
use Rattle.atomic_table.specs.Table.{rest}
use Rattle.tl_head.specs.declared.views.Stage.TheVariants.{Waits}
use Rattle.tl_head.specs.Moves.{LooksAt}
use Rattle.tl_head.proofs.StepLemmas.{looks}
use Rattle.tl_head.proofs.door.Door.take.Goals as goal

-- the one slot that a seat has is the one that it took last
last_taken : {S : Type 0} → (x : ℕ × S) (l : List (ℕ × S)) → l ≡ x ∷ [] → l ≡ x ∷ rest l
last_taken x l e = e ∙ ap (λ m. x ∷ rest m) (sym e)

pub load-found-requires : goal.load-found-requires
load-found-requires g c = (search rules, search rules, looks g.V.Published.entries _ _ c.draw-ticket.result _ (search rules) (search rules))

pub exchange-requires : goal.exchange-requires
exchange-requires g c =
    let waits : c.loop.seat.me.0.stage ≡ Waits c.draw-ticket.result = search rules in
    let told = subst (λ st. LooksAt g.V.Published.entries st c.loop.seat.me c.load-found.result c.load-found.new.seat.me) waits c.load-found.ensures.2 in
    let taken = told.0 (search rules) in
    (search rules, (Some taken.0, last_taken (0, Some taken.0) _ taken.1.slots))
