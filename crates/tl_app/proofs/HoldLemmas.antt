-- What is kept stays that of the open rows, event by event.
use Rattle.std.proofs.Common.{◌≡◌, ℕ, ◌+◌, ◌≤◌, ℤ, ◌<ℤ◌, false, cond, List, [], ◌∷◌, ◌++◌, length, take, Option, Some, None, refl, sym, ap, ◌∙◌, arith, subst, slice_get}
use Rattle.std.specs.Prelude.{option_map}
use Rattle.tl_types.specs.declared.events.ValidEvent.{ValidEvent}
use Rattle.tl_types.specs.Plain as plain
use Rattle.tl_query.specs.declared.typed_queries.AggPlan.{AggPlan}
use Rattle.tl_running.specs.Standing.{Kept, Suits, StandsFor, Changes, CanChange, IsShort}
use Rattle.tl_running.specs.Telling.{TellsNumber}
use Rattle.tl_running.proofs.TellLemmas.{suits_none, Turn, changes_kind, stands_then, suits_then, can_then}
use Rattle.tl_app.specs.Opening.{is_open, open_rows, Alternate}
use Rattle.tl_app.specs.Scans.{Holds}
use Rattle.tl_app.proofs.OpenLemmas.{chosen, chosen_step, chosen_few, turned}

-- ONE EVENT

module _ (rows : List plain.Row) (plan : AggPlan) (events : List ValidEvent) (i : ℕ) (e : ValidEvent) (p : plain.Period)
    (alternate : Alternate rows events) (is : slice_get events i ≡ Some e) (lasts : p.from <ℤ p.to) where
  turn_at : (r : plain.Row) → slice_get rows e.row ≡ Some r → r.period ≡ Some p → Turn e.opens r (open_rows rows (take i events)) (open_rows rows (take i events ++ e ∷ []))
  turn_at r here period = turned rows (take i events) e r here (alternate.turns i e r p is here period lasts)

  period_is : (r : plain.Row) → slice_get rows e.row ≡ Some r → Some (Some p) ≡ option_map (λ (r : plain.Row). r.period) (slice_get rows e.row) → r.period ≡ Some p
  period_is r here told = some_is r.period (Some p) (sym (told ∙ ap (option_map (λ (r : plain.Row). r.period)) here)) where
    some_is : (x y : Option plain.Period) → Some x ≡ Some y → x ≡ y
    some_is x y is = cc

  -- the event's row can come, or go
  pub can_take : (kept : Kept) (number : ℤ) → length rows ≤ 16777216 → Some (Some p) ≡ option_map (λ (r : plain.Row). r.period) (slice_get rows e.row) → Holds rows plan (take i events) kept → TellsNumber plan.kind plan.column rows e.row number → CanChange e.opens kept number
  can_take kept number few told holds tells = by_row (slice_get rows e.row) refl told where
    by_row : (o : Option plain.Row) → slice_get rows e.row ≡ o → Some (Some p) ≡ option_map (λ (r : plain.Row). r.period) o → CanChange e.opens kept number
    by_row None here t = absurd (cc)
    by_row (Some r) here t =
        let short = chosen_few (λ id s. is_open (take i events) id s.period) 0 rows in
        subst (CanChange e.opens kept) (tells r here).0
        (can_then e.opens kept plan.column r (open_rows rows (take i events)) (open_rows rows (take i events ++ e ∷ [])) (omega arith) holds.stands (turn_at r here (period_is r here told)))

  -- and then what is kept is that of the rows after it
  pub taken : (old new : Kept) (number : ℤ) → Some (Some p) ≡ option_map (λ (r : plain.Row). r.period) (slice_get rows e.row) → Holds rows plan (take i events) old → TellsNumber plan.kind plan.column rows e.row number → IsShort number → Changes e.opens old new number → Holds rows plan (take i events ++ e ∷ []) new
  taken old new number told holds tells short changes = by_row (slice_get rows e.row) refl told where
    by_row : (o : Option plain.Row) → slice_get rows e.row ≡ o → Some (Some p) ≡ option_map (λ (r : plain.Row). r.period) o → Holds rows plan (take i events ++ e ∷ []) new
    by_row None here t = absurd (cc)
    by_row (Some r) here t =
        let n_is = (tells r here).0 in
        let turn = turn_at r here (period_is r here told) in record {
          kind = changes_kind e.opens old new number changes ∙ holds.kind;
          stands = stands_then e.opens old new plan.column r (open_rows rows (take i events)) (open_rows rows (take i events ++ e ∷ [])) (subst IsShort (sym n_is) short) holds.stands turn (subst (Changes e.opens old new) (sym n_is) changes);
          suits = suits_then e.opens plan.kind plan.column r (open_rows rows (take i events)) (open_rows rows (take i events ++ e ∷ [])) (tells r here).1 holds.suits turn;
        }

-- BEFORE THE FIRST EVENT

none_at : (id : ℕ) (q : Option plain.Period) → is_open [] id q ≡ false
none_at id None = refl
none_at id (Some p) = refl

none_chosen : (n : ℕ) (rows : List plain.Row) → chosen (λ id s. is_open [] id s.period) n rows ≡ []
none_chosen n [] = refl
none_chosen n (r ∷ rows) =
    chosen_step (λ id s. is_open [] id s.period) n r rows
    ∙ ap (λ b. cond b (r ∷ chosen (λ id s. is_open [] id s.period) (n + 1) rows) (chosen (λ id s. is_open [] id s.period) (n + 1) rows)) (none_at n r.period)
    ∙ none_chosen (n + 1) rows

pub none_open : (rows : List plain.Row) → open_rows rows [] ≡ []
none_open rows = none_chosen 0 rows

pub holds_none : (rows : List plain.Row) (plan : AggPlan) (kept : Kept) → kept.kind ≡ plan.kind → StandsFor kept plan.column [] → Holds rows plan [] kept
holds_none rows plan kept is stands = record {
  kind = is;
  stands = subst (StandsFor kept plan.column) (sym (none_open rows)) stands;
  suits = subst (Suits plan.kind plan.column) (sym (none_open rows)) (suits_none plan.kind plan.column);
}
