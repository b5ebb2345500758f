-- Periods by their two ends.
use Rattle.std.proofs.Common.{◌≡◌, ℕ, zero, suc, ◌+◌, ◌<◌, ℤ, ◌<ℤ◌, false, ◌&&◌, List, [], ◌∷◌, ◌++◌, length, map, get_or, take, Option, Some, None, refl, sym, ap, ◌∙◌, arith, slice_get}
use Rattle.std.proofs.lemmas.List.{take_more}
use Rattle.std.proofs.lemmas.List.Elements.{filter_map-append}
use Rattle.std.specs.Option.{option_to_list}
use Rattle.std.specs.List.{cons_option}
use Rattle.tl_types.specs.History.{is_within}
use Rattle.tl_types.specs.Plain as plain
use Rattle.tl_lanes.specs.Masks.{passes}
use Rattle.tl_lanes.specs.declared.masks.LaneCmp.TheVariants.{Le, Gt}
use Rattle.tl_store.specs.Columns.{periods_of, periods_in, AreEnds}

pub periods_of-append : (ss es more_ss more_es : List ℤ) → AreEnds ss es → periods_of (ss ++ more_ss) (es ++ more_es) ≡ periods_of ss es ++ periods_of more_ss more_es
periods_of-append [] [] more_ss more_es h = refl
periods_of-append [] (e ∷ es) more_ss more_es h = absurd h
periods_of-append (s ∷ ss) [] more_ss more_es h = absurd h
periods_of-append (s ∷ ss) (e ∷ es) more_ss more_es h = ap (λ t. record { from = s; to = e } ∷ t) (periods_of-append ss es more_ss more_es h.1)

pub are_ends-append : (ss es more_ss more_es : List ℤ) → AreEnds ss es → AreEnds more_ss more_es → AreEnds (ss ++ more_ss) (es ++ more_es)
are_ends-append [] [] more_ss more_es h k = k
are_ends-append [] (e ∷ es) more_ss more_es h k = absurd h
are_ends-append (s ∷ ss) [] more_ss more_es h k = absurd h
are_ends-append (s ∷ ss) (e ∷ es) more_ss more_es h k = (h.0, are_ends-append ss es more_ss more_es h.1 k)

pub length-periods_of : (ss es : List ℤ) → AreEnds ss es → length (periods_of ss es) ≡ length ss
length-periods_of [] [] h = refl
length-periods_of [] (e ∷ es) h = absurd h
length-periods_of (s ∷ ss) [] h = absurd h
length-periods_of (s ∷ ss) (e ∷ es) h = ap suc (length-periods_of ss es h.1)

pub as_many_ends : (ss es : List ℤ) → AreEnds ss es → length es ≡ length ss
as_many_ends [] [] h = refl
as_many_ends [] (e ∷ es) h = absurd h
as_many_ends (s ∷ ss) [] h = absurd h
as_many_ends (s ∷ ss) (e ∷ es) h = ap suc (as_many_ends ss es h.1)

pub ends_at : (ss es : List ℤ) (k : ℕ) (d e : ℤ) → AreEnds ss es → k < length ss → get_or ss k d <ℤ get_or es k e
ends_at [] es k d e h l = absurd (omega arith)
ends_at (s ∷ ss) [] k d e h l = absurd h
ends_at (s ∷ ss) (t ∷ es) zero d e h l = h.0
ends_at (s ∷ ss) (t ∷ es) (suc k) d e h l = ends_at ss es k d e h.1 (omega arith)

pub period_of_ends : (ss es : List ℤ) (k : ℕ) (d e : ℤ) → AreEnds ss es → k < length ss → slice_get (periods_of ss es) k ≡ Some (record { from = get_or ss k d; to = get_or es k e })
period_of_ends [] es k d e h l = absurd (omega arith)
period_of_ends (s ∷ ss) [] k d e h l = absurd h
period_of_ends (s ∷ ss) (t ∷ es) zero d e h l = refl
period_of_ends (s ∷ ss) (t ∷ es) (suc k) d e h l = period_of_ends ss es k d e h.1 (omega arith)

pub periods_more : (opens : List plain.Opened) (i : ℕ) (x : plain.Opened) (period : Option plain.Period) → i < length opens → x ≡ get_or opens i x → period ≡ x.period → periods_in (take (i + 1) opens) ≡ periods_in (take i opens) ++ option_to_list period
periods_more opens i x period h is same =
    let one : (p : Option plain.Period) → cons_option p [] ≡ option_to_list p = λ p. elim p as (λ q. cons_option q [] ≡ option_to_list q) [ None ↦ refl | Some v ↦ refl ] in
    ap periods_in (take_more opens i x h ∙ ap (λ t. take i opens ++ t ∷ []) (sym is))
    ∙ filter_map-append (λ o. o.period) (take i opens) (x ∷ [])
    ∙ ap (λ t. periods_in (take i opens) ++ t) (one x.period ∙ ap option_to_list (sym same))

-- whether the period at a place holds a moment, by its two ends
pub holds_at : (ss es : List ℤ) (j : ℕ) (moment : ℤ) → AreEnds ss es
    → is_within moment (slice_get (periods_of ss es) j) ≡ (get_or (map (λ s. passes Le s moment) ss) j false && get_or (map (λ e. passes Gt e moment) es) j false)
holds_at [] [] zero moment h = refl
holds_at [] [] (suc j) moment h = refl
holds_at [] (e ∷ es) j moment h = absurd h
holds_at (s ∷ ss) [] j moment h = absurd h
holds_at (s ∷ ss) (e ∷ es) zero moment h = refl
holds_at (s ∷ ss) (e ∷ es) (suc j) moment h = holds_at ss es j moment h.1

-- the period of a row that is shown
pub period_shown : (r shown : plain.Row) → Some r ≡ Some shown → shown.period ≡ r.period
period_shown r shown same = let e : shown ≡ r = cc in ap (λ (x : plain.Row). x.period) e
