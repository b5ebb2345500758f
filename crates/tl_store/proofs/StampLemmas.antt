-- The last of the stamps, and the first one of a greater moment.
use Rattle.std.proofs.Common.{◌≡◌, ℕ, zero, suc, ◌+◌, ◌-◌, ◌<◌, ◌<ℤ◌, ℤ, true, false, cond, int_lt, List, [], ◌∷◌, length, drop, get_or, Option, Some, None, refl, sym, ap, ◌∙◌, arith, slice_get}
use Rattle.std.specs.Option.{option_map}
use Rattle.std.proofs.lemmas.Option.{slice_get_read}
use Rattle.std.proofs.lemmas.Int.{ints}
use Rattle.tl_types.specs.Plain as plain
use Rattle.tl_types.specs.History.{last_moment, version_at_moment}
use Rattle.tl_types.specs.WellFormed.{Follows, Rise}
use Rattle.tl_types.proofs.TimeLemmas.{last_get}

-- THE LAST ONE

pub last_none : (stamps : List plain.Stamp) → length stamps ≡ 0 → last_moment stamps ≡ None
last_none [] h = refl
last_none (s ∷ stamps) h = absurd (omega arith)

pub last_shown : (stamps : List plain.Stamp) (k : ℕ) (s : plain.Stamp) → slice_get stamps k ≡ Some s → k + 1 ≡ length stamps → last_moment stamps ≡ Some s.moment
last_shown [] k s e h = absurd (omega arith)
last_shown (x ∷ stamps) k s e h =
    let at : length stamps ≡ k = omega (arith, h) in
    ap (option_map (λ (s : plain.Stamp). s.moment)) (sym (last_get None x stamps) ∙ ap (slice_get (x ∷ stamps)) at ∙ e)

-- THE FIRST ONE OF A GREATER MOMENT

less : (a b : ℤ) (m : ℤ) → a <ℤ b → int_lt m b ≡ false → int_lt m a ≡ false
less a b m h e = grind (arith, ints)

between : (a b c : ℤ) → a <ℤ b → b <ℤ c → a <ℤ c
between a b c h k = omega (arith, ints)

rise_above : (last : plain.Stamp) (stamps : List plain.Stamp) (k : ℕ) (s : plain.Stamp) → Rise (Some last) stamps → slice_get stamps k ≡ Some s → last.moment <ℤ s.moment
rise_above last [] k s h e = absurd (cc)
rise_above last (x ∷ stamps) zero s h e = let same : x ≡ s = cc in rw (← same) h.0.1
rise_above last (x ∷ stamps) (suc k) s h e = between last.moment x.moment s.moment h.0.1 (rise_above x stamps k s h.1 e)

-- no stamp up to one of a moment that is not greater has a greater one
pub passed : (now : ℕ) (moment : ℤ) (last : Option plain.Stamp) (stamps : List plain.Stamp) (k : ℕ) (s : plain.Stamp) → Rise last stamps → slice_get stamps k ≡ Some s → int_lt moment s.moment ≡ false → version_at_moment now stamps moment ≡ version_at_moment now (drop (k + 1) stamps) moment
passed now moment last [] k s h e f = absurd (cc)
passed now moment last (x ∷ stamps) zero s h e f =
    let same : x ≡ s = cc in
    let g : int_lt moment x.moment ≡ false = rw same f in
    ap (λ b. cond b (x.version - 1) (version_at_moment now stamps moment)) g
passed now moment last (x ∷ stamps) (suc k) s h e f =
    let g = less x.moment s.moment moment (rise_above x stamps k s h.1 e) f in
    let n : suc (k + 1) ≡ suc k + 1 = omega arith in
    ap (λ b. cond b (x.version - 1) (version_at_moment now stamps moment)) g
    ∙ passed now moment (Some x) stamps k s h.1 e f
    ∙ ap (λ d. version_at_moment now (drop d (x ∷ stamps)) moment) n

pub after_last : (now : ℕ) (moment : ℤ) (stamps : List plain.Stamp) (k : ℕ) → k ≡ length stamps → version_at_moment now (drop k stamps) moment ≡ now
after_last now moment [] zero h = refl
after_last now moment [] (suc k) h = absurd (omega arith)
after_last now moment (x ∷ stamps) zero h = absurd (omega arith)
after_last now moment (x ∷ stamps) (suc k) h = after_last now moment stamps k (omega arith)

pub first_there : (now : ℕ) (moment : ℤ) (stamps : List plain.Stamp) (k : ℕ) (s : plain.Stamp) → slice_get stamps k ≡ Some s → int_lt moment s.moment ≡ true → version_at_moment now (drop k stamps) moment ≡ s.version - 1
first_there now moment [] k s e t = absurd (cc)
first_there now moment (x ∷ stamps) zero s e t =
    let same : x ≡ s = cc in
    ap (λ (y : plain.Stamp). cond (int_lt moment y.moment) (y.version - 1) (version_at_moment now stamps moment)) same
    ∙ ap (λ b. cond b (s.version - 1) (version_at_moment now stamps moment)) t
first_there now moment (x ∷ stamps) (suc k) s e t = first_there now moment stamps k s e t

-- each stamp is of version 1 or later
pub version_there : (last : Option plain.Stamp) (stamps : List plain.Stamp) (k : ℕ) (s : plain.Stamp) → Rise last stamps → slice_get stamps k ≡ Some s → 0 < s.version
version_there last [] k s h e = absurd (cc)
version_there last (x ∷ stamps) zero s h e =
    let same : x ≡ s = cc in
    rw (← same) (first last h.0) where
      first : (last : Option plain.Stamp) → Follows last x → 0 < x.version
      first None f = f
      first (Some l) f = omega (arith, f.0)
version_there last (x ∷ stamps) (suc k) s h e = version_there (Some x) stamps k s h.1 e

-- AS THE CODE HAS IT

pub read_stamp : (list stamps : List plain.Stamp) (k : ℕ) (s : plain.Stamp) → list ≡ stamps → k < length stamps → s ≡ get_or list k s → slice_get stamps k ≡ Some s
read_stamp list stamps k s is h read =
    slice_get_read stamps (length stamps) k s refl h (read ∙ ap (λ l. get_or l k s) is)

pub read_passed : (now : ℕ) (moment : ℤ) (list stamps : List plain.Stamp) (k : ℕ) (s : plain.Stamp) (there : ℤ) → Rise None stamps → list ≡ stamps → k < length stamps → s ≡ get_or list k s → there ≡ s.moment → int_lt moment there ≡ false → version_at_moment now stamps moment ≡ version_at_moment now (drop (k + 1) stamps) moment
read_passed now moment list stamps k s there rise is h read at t = passed now moment None stamps k s rise (read_stamp list stamps k s is h read) (ap (int_lt moment) (sym at) ∙ t)

pub read_first : (now : ℕ) (moment : ℤ) (list stamps : List plain.Stamp) (k : ℕ) (s : plain.Stamp) (there : ℤ) → Rise None stamps → list ≡ stamps → k < length stamps → s ≡ get_or list k s → there ≡ s.moment → int_lt moment there ≡ true → (0 < s.version) × (version_at_moment now (drop k stamps) moment ≡ s.version - 1)
read_first now moment list stamps k s there rise is h read at t =
    let here = read_stamp list stamps k s is h read in
    (version_there None stamps k s rise here, first_there now moment stamps k s here (ap (int_lt moment) (sym at) ∙ t))
