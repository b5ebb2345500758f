-- Codes in the order of their texts.
use Rattle.std.proofs.Common.{◌≡◌, ◌≢◌, ℕ, ◌+◌, ◌-◌, ◌<◌, ◌≤◌, zero, suc, Bool, true, false, List, [], ◌∷◌, ◌++◌, length, get_or, take, drop, eqb, if◌then◌else◌, inl, inr, refl, sym, ap, ◌∙◌, subst, eq-eqb, arith, append_assoc, length-append}
use Rattle.std.proofs.lemmas.List.{get_or_append_left, take_all, take_more}
use Rattle.std.proofs.lemmas.Bool.{eqb-true, cases_eq}
use Rattle.std.specs.declared.cmp.Ordering.TheVariants.{Less, Greater}
use Rattle.tl_shared.specs.Chunks.{flatten}
use Rattle.tl_shared.proofs.Pieces.{rejoin, flatten_more}
use Rattle.tl_column.specs.Dictionary.{text_of}
use Rattle.tl_column.specs.Runs.{IsUpTo, IsUpToAll, IsRun, AreRuns, IsNext, LacksText, times}
use Rattle.tl_column.proofs.Ordered.{order, up_to_less, greater_up_to, up_to_trans, differs_if_less, differs_if_greater}

-- a list with an item is that and the items behind it
pub cons_parts : (xs : List ℕ) → 1 ≤ length xs → xs ≡ get_or xs 0 0 ∷ take (length xs - 1) (drop 1 xs)
cons_parts [] h = absurd (omega arith)
cons_parts (x ∷ xs) h = ap (λ ys. x ∷ ys) (sym (take_all (length (x ∷ xs) - 1) xs (omega arith)))

-- a list that was split before an item
pub item_between : (n : ℕ) (xs front back : List ℕ) → front ≡ take n xs → back ≡ drop n xs → 1 ≤ length back → front ++ get_or back 0 0 ∷ take (length back - 1) (drop 1 back) ≡ xs
item_between n xs front back p q h = ap (λ t. front ++ t) (sym (cons_parts back h)) ∙ rejoin n xs front back p q

module _ (texts : List (List ℕ)) where
  abbrev t : ℕ → List ℕ
  t code = text_of texts code

  -- parts of a run
  pub run_back : (front more : List ℕ) → IsRun texts (front ++ more) → IsRun texts more
  run_back [] more h = h
  run_back (c ∷ cs) more h = run_back cs more h.2

  up_to_front : (code : ℕ) (front more : List ℕ) → IsUpToAll texts code (front ++ more) → IsUpToAll texts code front
  up_to_front code [] more h = tt
  up_to_front code (c ∷ cs) more h = (h.0, up_to_front code cs more h.1)

  pub run_front : (front more : List ℕ) → IsRun texts (front ++ more) → IsRun texts front
  run_front [] more h = tt
  run_front (c ∷ cs) more h = (h.0, up_to_front c cs more h.1, run_front cs more h.2)

  up_to_middle : (code : ℕ) (front : List ℕ) (middle : ℕ) (rest : List ℕ) → IsUpToAll texts code (front ++ middle ∷ rest) → IsUpTo (t code) (t middle)
  up_to_middle code [] middle rest h = h.0
  up_to_middle code (c ∷ cs) middle rest h = up_to_middle code cs middle rest h.1

  -- a code before which another stands is before all that the other is before
  pub up_to_all_trans : (code other : ℕ) (rest : List ℕ) → IsUpTo (t code) (t other) → IsUpToAll texts other rest → IsUpToAll texts code rest
  up_to_all_trans code other [] h k = tt
  up_to_all_trans code other (c ∷ cs) h k =
      (up_to_trans (t code) (t other) (t c) h k.0, up_to_all_trans code other cs h k.1)

  -- the first of two codes, where neither list is empty
  pub next_from_left : (left right : List ℕ) → IsRun texts right → 1 ≤ length left → 1 ≤ length right → IsUpTo (t (get_or left 0 0)) (t (get_or right 0 0)) → IsNext texts left right (get_or left 0 0) (take (length left - 1) (drop 1 left)) right
  next_from_left left [] k l m up = absurd (omega arith)
  next_from_left left (r ∷ rs) k l m up =
      inl (cons_parts left l, refl, (up, up_to_all_trans (get_or left 0 0) r rs up k.1))

  pub next_from_right : (left right : List ℕ) → IsRun texts left → 1 ≤ length left → 1 ≤ length right → IsUpTo (t (get_or right 0 0)) (t (get_or left 0 0)) → IsNext texts left right (get_or right 0 0) left (take (length right - 1) (drop 1 right))
  next_from_right [] right h l m up = absurd (omega arith)
  next_from_right (x ∷ xs) right h l m up =
      inr (cons_parts right m, refl, (up, up_to_all_trans (get_or right 0 0) x xs up h.1))

  -- a text that is behind the middle code's is none of the front's
  pub lacks_behind : (text : List ℕ) (front : List ℕ) (middle : ℕ) (rest : List ℕ) → IsRun texts (front ++ middle ∷ rest) → order (t middle) text ≡ Less → LacksText texts text rest → LacksText texts text (front ++ middle ∷ rest)
  lacks_behind text [] middle rest h l k = (differs_if_less (t middle) text l, k)
  lacks_behind text (c ∷ cs) middle rest h l k = (
    differs_if_less (t c) text (up_to_less (t c) (t middle) text (up_to_middle c cs middle rest h.1) l),
    lacks_behind text cs middle rest h.2 l k,
  )

  all_greater : (text : List ℕ) (code : ℕ) (rest : List ℕ) → order (t code) text ≡ Greater → IsUpToAll texts code rest → LacksText texts text rest
  all_greater text code [] g h = tt
  all_greater text code (c ∷ cs) g h =
      (differs_if_greater (t c) text (greater_up_to (t code) (t c) text h.0 g), all_greater text code cs g h.1)

  -- a text that is before the middle code's is none of those from there on
  pub lacks_before : (text : List ℕ) (front : List ℕ) (middle : ℕ) (rest : List ℕ) → IsRun texts (front ++ middle ∷ rest) → order (t middle) text ≡ Greater → LacksText texts text front → LacksText texts text (front ++ middle ∷ rest)
  lacks_before text [] middle rest h g k =
      (differs_if_greater (t middle) text g, all_greater text middle rest g h.1)
  lacks_before text (c ∷ cs) middle rest h g k = (k.0, lacks_before text cs middle rest h.2 g k.1)

  up_to_insert : (c code : ℕ) (front left right : List ℕ) → IsUpToAll texts c (front ++ code ∷ left) → IsUpToAll texts c (front ++ right) → IsUpToAll texts c (front ++ code ∷ right)
  up_to_insert c code [] left right h k = (h.0, k)
  up_to_insert c code (d ∷ front) left right h k = (h.0, up_to_insert c code front left right h.1 k.1)

  -- a code between the front and codes that it is before
  run_insert : (code : ℕ) (front left right : List ℕ) → IsRun texts (front ++ code ∷ left) → IsRun texts (front ++ right) → IsUpToAll texts code right → IsRun texts (front ++ code ∷ right)
  run_insert code [] left right h k up = (h.0, up, k)
  run_insert code (c ∷ front) left right h k up =
      (h.0, up_to_insert c code front left right h.1 k.1, run_insert code front left right h.2 k.2 up)

  pub times_append : (code : ℕ) (xs ys : List ℕ) → times code (xs ++ ys) ≡ times code xs + times code ys
  times_append code [] ys = omega arith
  times_append code (x ∷ xs) ys = omega (arith, times_append code xs ys)

  -- one more code taken from the two
  pub run_left : (front left right : List ℕ) (code : ℕ) (more_left more_right : List ℕ) → IsRun texts (front ++ left) → IsRun texts (front ++ right) → IsNext texts left right code more_left more_right → IsRun texts ((front ++ code ∷ []) ++ more_left)
  run_left front left right code more_left more_right h k next =
      elim next [
        | inl e ↦
            rw append_assoc
            (subst (λ xs. IsRun texts (front ++ xs)) e.0 h)
        | inr e ↦
            rw append_assoc
            (run_insert code front more_right more_left (subst (λ xs. IsRun texts (front ++ xs)) e.0 k) (subst (λ xs. IsRun texts (front ++ xs)) e.1 h) e.2)
      ]

  pub run_right : (front left right : List ℕ) (code : ℕ) (more_left more_right : List ℕ) → IsRun texts (front ++ left) → IsRun texts (front ++ right) → IsNext texts left right code more_left more_right → IsRun texts ((front ++ code ∷ []) ++ more_right)
  run_right front left right code more_left more_right h k next =
      elim next [
        | inl e ↦
            rw append_assoc
            (run_insert code front more_left more_right (subst (λ xs. IsRun texts (front ++ xs)) e.0 h) (subst (λ xs. IsRun texts (front ++ xs)) e.1 k) e.2)
        | inr e ↦
            rw append_assoc
            (subst (λ xs. IsRun texts (front ++ xs)) e.0 k)
      ]

  pub times_next : (n : ℕ) (front left right : List ℕ) (code : ℕ) (more_left more_right : List ℕ) → IsNext texts left right code more_left more_right → times n (front ++ code ∷ []) + times n more_left + times n more_right ≡ times n front + times n left + times n right
  times_next n front left right code more_left more_right next =
      elim next [
        | inl e ↦ omega (arith, times_append n front (code ∷ []), ap (times n) e.0, ap (times n) e.1)
        | inr e ↦ omega (arith, times_append n front (code ∷ []), ap (times n) e.0, ap (times n) e.1)
      ]

  pub length_next : (left right : List ℕ) (code : ℕ) (more_left more_right : List ℕ) → IsNext texts left right code more_left more_right → length more_left + length more_right < length left + length right
  length_next left right code more_left more_right next =
      elim next
      [ inl e ↦ omega (arith, ap length e.0, ap length e.1) | inr e ↦ omega (arith, ap length e.0, ap length e.1) ]

  -- runs beside one another
  pub runs_more : (runs : List (List ℕ)) (run : List ℕ) → AreRuns texts runs → IsRun texts run → AreRuns texts (runs ++ run ∷ [])
  runs_more [] run h k = (k, tt)
  runs_more (r ∷ rs) run h k = (h.0, runs_more rs run h.1 k)

  pub runs_front : (runs : List (List ℕ)) (run : List ℕ) → AreRuns texts (runs ++ run ∷ []) → AreRuns texts runs
  runs_front [] run h = tt
  runs_front (r ∷ rs) run h = (h.0, runs_front rs run h.1)

  pub runs_last : (runs : List (List ℕ)) (run : List ℕ) → AreRuns texts (runs ++ run ∷ []) → IsRun texts run
  runs_last [] run h = h.0
  runs_last (r ∷ rs) run h = runs_last rs run h.1

  pub run_at : (runs : List (List ℕ)) (k : ℕ) (d : List ℕ) → AreRuns texts runs → k < length runs → IsRun texts (get_or runs k d)
  run_at [] k d h l = absurd (omega arith)
  run_at (r ∷ rs) zero d h l = h.0
  run_at (r ∷ rs) (suc k) d h l = run_at rs k d h.1 (omega arith)

  pub lacks_append : (text : List ℕ) (xs ys : List ℕ) → LacksText texts text xs → LacksText texts text ys → LacksText texts text (xs ++ ys)
  lacks_append text [] ys h k = k
  lacks_append text (x ∷ xs) ys h k = (h.0, lacks_append text xs ys h.1 k)

  there_at : (b : Bool) (text : List ℕ) (c code n : ℕ) → eqb c code ≡ b → t c ≢ text → t code ≡ text → 0 < (if b then 1 else 0) + n → 0 < n
  there_at true text c code n e h is some = absurd (h (ap t (eqb-true c code e) ∙ is))
  there_at false text c code n e h is some = omega arith

  -- a code that is there has one of the texts
  pub lacks_none : (text : List ℕ) (codes : List ℕ) (code : ℕ) → LacksText texts text codes → 0 < times code codes → t code ≢ text
  lacks_none text [] code h some = absurd (omega arith)
  lacks_none text (c ∷ cs) code h some = λ is.
      lacks_none text cs code h.1 (there_at (eqb c code) text c code (times code cs) refl h.0 is some) is

  -- one more run that lacks the text
  pub lacks_more : (text : List ℕ) (pieces : List (List ℕ)) (k : ℕ) (d : List ℕ) → LacksText texts text (flatten (take k pieces)) → k < length pieces → LacksText texts text (get_or pieces k d) → LacksText texts text (flatten (take (k + 1) pieces))
  lacks_more text pieces k d so_far h lacks =
      rw (take_more pieces k d h, flatten_more 0 (take k pieces) (get_or pieces k d))
      (lacks_append text (flatten (take k pieces)) (get_or pieces k d) so_far lacks)

  -- one more text leaves the runs
  module _ (more : List (List ℕ)) where
    pub text_kept : (code : ℕ) → code < length texts → text_of (texts ++ more) code ≡ t code
    text_kept code h = get_or_append_left texts more [] code h

    up_to_kept : (code : ℕ) (rest : List ℕ) → code < length texts → IsUpToAll texts code rest → IsRun texts rest → IsUpToAll (texts ++ more) code rest
    up_to_kept code [] l h k = tt
    up_to_kept code (c ∷ cs) l h k =
        (rw (text_kept code l, text_kept c k.0) h.0, up_to_kept code cs l h.1 k.2)

    pub run_kept : (run : List ℕ) → IsRun texts run → IsRun (texts ++ more) run
    run_kept [] h = tt
    run_kept (c ∷ cs) h =
        (omega (arith, h.0, length-append texts more), up_to_kept c cs h.0 h.1 h.2, run_kept cs h.2)

    pub runs_kept : (runs : List (List ℕ)) → AreRuns texts runs → AreRuns (texts ++ more) runs
    runs_kept [] h = tt
    runs_kept (r ∷ rs) h = (run_kept r h.0, runs_kept rs h.1)

-- one more code
new_code : (code next : ℕ) → code ≡ next → times code (next ∷ []) ≡ 1
new_code code next e = ap (λ b. (if b then 1 else 0) + 0) (eq-eqb next code (sym e))

pub complete_more : (texts : List (List ℕ)) (text : List ℕ) (old new : List ℕ) (next : ℕ) → next ≡ length texts → ((code : ℕ) → code < length texts → 0 < times code old) → ((code : ℕ) → times code new ≡ times code old + times code (next ∷ [])) → (code : ℕ) → code < length (texts ++ text ∷ []) → 0 < times code new
complete_more texts text old new next is all more code h =
    elim (cases_eq code next) [
      | inl e ↦ omega (arith, more code, new_code code next e)
      | inr ne ↦ omega (arith, more code, all code (omega (arith, length-append texts (text ∷ []))))
    ]
