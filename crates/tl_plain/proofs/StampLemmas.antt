-- The last of the stamps.
use Rattle.std.proofs.Common.{◌≡◌, ℕ, ◌+◌, ◌-◌, ◌<◌, ℤ, Bool, int_lt, List, [], ◌∷◌, length, get_or, Option, Some, None, refl, sym, ap, ◌∙◌, arith, slice_get}
use Rattle.std.specs.Option.{option_map}
use Rattle.std.proofs.lemmas.Option.{slice_get_read}
use Rattle.tl_types.specs.Plain as plain
use Rattle.tl_types.specs.History.{is_later, last_moment}
use Rattle.tl_types.proofs.TimeLemmas.{last_get}

pub last_none : (stamps : List plain.Stamp) → length stamps ≡ 0 → last_moment stamps ≡ None
last_none [] h = refl
last_none (s ∷ stamps) h = absurd (omega arith)

last_shown : (stamps : List plain.Stamp) (k : ℕ) (s : plain.Stamp) → slice_get stamps k ≡ Some s → k + 1 ≡ length stamps → last_moment stamps ≡ Some s.moment
last_shown [] k s e h = absurd (omega arith)
last_shown (x ∷ stamps) k s e h =
    let at : length stamps ≡ k = omega (arith, h) in
    ap (option_map (λ (s : plain.Stamp). s.moment)) (sym (last_get None x stamps) ∙ ap (slice_get (x ∷ stamps)) at ∙ e)

-- a moment beside that of the last stamp, by its place
pub later_shown : (stamps : List plain.Stamp) (k : ℕ) (s : plain.Stamp) (last moment : ℤ) → k + 1 ≡ length stamps → s ≡ get_or stamps k s → last ≡ s.moment → int_lt last moment ≡ is_later moment (last_moment stamps)
later_shown stamps k s last moment h read is =
    let here = slice_get_read stamps (length stamps) k s refl (omega (arith, h)) read in
    ap (λ m. int_lt m moment) is ∙ sym (ap (is_later moment) (last_shown stamps k s here h))
