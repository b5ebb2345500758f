-- Few stretches in a list: taking one out and putting one in, by its place.
use Rattle.std.proofs.Common.{◌≡◌, ◌<◌, ◌≤◌, ◌+◌, ◌++◌, ℕ, zero, suc, ℤ, ◌<ℤ◌, ◌≤ℤ◌, int_lt, Bool, true, false, ◌||◌, cond, List, [], ◌∷◌, drop, length, get_or, append_assoc, Option, Some, None, slice_get, refl, sym, ap, ◌∙◌, arith}
use Rattle.std.specs.List.{insert, remove}
use Rattle.std.specs.Int.{int_min, int_max}
use Rattle.std.specs.declared.cmp.Ordering.TheVariants.{Less, Greater}
use Rattle.std.specs.Ordering.{int_cmp}
use Rattle.std.specs.Map.{remove_entry}
use Rattle.std.specs.BTreeMap.{is_at, insert_entry}
use Rattle.std.proofs.lemmas.Int.{ints}
use Rattle.std.proofs.lemmas.List.{drop_more, drop_all}
use Rattle.std.proofs.lemmas.Option.{slice_get-get_or, slice_get_past}
use Rattle.tl_types.specs.Plain as plain
use Rattle.tl_batch.specs.Covers.{is_between, is_covered, Beyond, before_all, joining, ended, gaps}
use Rattle.tl_batch.specs.Pieces.{part}
use Rattle.tl_batch.proofs.GapLemmas.{lt_true, lt_false}
use Rattle.tl_batch.proofs.PeriodSetLemmas.{swallow_more}

-- the stretch, where it is there and begins early enough
abbrev pub touching : ℤ → Option (ℤ × ℤ) → Option (ℤ × ℤ)
touching to None = None
touching to (Some s) = cond (int_lt to s.1) None (Some s)

-- the first that joins is the first that does not end before
pub joining_at : (from to : ℤ) (ss : List (ℤ × ℤ)) → joining from to ss ≡ touching to (slice_get ss (ended from ss))
joining_at from to [] = refl
joining_at from to (s ∷ ss) = by (int_lt s.0 from) refl (joining_at from to ss) where
  by : (b : Bool) → int_lt s.0 from ≡ b → joining from to ss ≡ touching to (slice_get ss (ended from ss)) → joining from to (s ∷ ss) ≡ touching to (slice_get (s ∷ ss) (ended from (s ∷ ss)))
  by true e later = rw e later
  by false e later = rw e refl

got : (at : ℕ) (ss : List (ℤ × ℤ)) (s : ℤ × ℤ) → at < length ss → s ≡ get_or ss at s → slice_get ss at ≡ Some s
got at ss s h is = slice_get-get_or ss at s h ∙ ap (λ x. Some x) (sym is)

-- the stretch at the place begins early enough
pub joins : (from to start : ℤ) (at : ℕ) (ss : List (ℤ × ℤ)) (d : ℤ × ℤ) → at ≡ ended from ss → at < length ss → start ≡ (get_or ss at d).1 → start ≤ℤ to → joining from to ss ≡ slice_get ss at
joins from to start at ss d place h begins early =
    let is = slice_get-get_or ss at d h in
    joining_at from to ss ∙ (ap (λ i. touching to (slice_get ss i)) (sym place) ∙ (ap (touching to) is ∙ (ap (λ b. cond b None (Some (get_or ss at d))) (lt_false to (get_or ss at d).1 (let e = begins in omega (arith, ints))) ∙ sym is)))

-- it begins too late
pub joins_late : (from to start : ℤ) (at : ℕ) (ss : List (ℤ × ℤ)) (d : ℤ × ℤ) → at ≡ ended from ss → at < length ss → start ≡ (get_or ss at d).1 → to <ℤ start → joining from to ss ≡ None
joins_late from to start at ss d place h begins late =
    joining_at from to ss ∙ (ap (λ i. touching to (slice_get ss i)) (sym place) ∙ (ap (touching to) (slice_get-get_or ss at d h) ∙ ap (λ b. cond b None (Some (get_or ss at d))) (lt_true to (get_or ss at d).1 (let e = begins in omega (arith, ints)))))

-- all end before
pub joins_none : (from to : ℤ) (at : ℕ) (ss : List (ℤ × ℤ)) → at ≡ ended from ss → length ss ≤ at → joining from to ss ≡ None
joins_none from to at ss place h = joining_at from to ss ∙ (ap (λ i. touching to (slice_get ss i)) (sym place) ∙ ap (touching to) (slice_get_past ss at h))

after_low : (i : ℕ) (low : ℤ) (ss : List (ℤ × ℤ)) (s : ℤ × ℤ) → Beyond low ss → slice_get ss i ≡ Some s → low <ℤ s.0
after_low i low [] s all e = absurd (cc)
after_low zero low (r ∷ ss) s all e = let h = all.0 in let k = all.1 in let same : r.0 ≡ s.0 = cc in omega (arith, ints)
after_low (suc i) low (r ∷ ss) s all e = let h = all.0 in let k = all.1 in let m = after_low i r.0 ss s all.2 e in omega (arith, ints)

at_other : (a b : ℤ) → b <ℤ a → is_at (int_cmp a) b ≡ false
at_other a b h = grind arith

at_self : (a : ℤ) → is_at (int_cmp a) a ≡ true
at_self a = grind arith

-- taking out the stretch at a place takes out the one with its end
pub remove_is : (i : ℕ) (low : ℤ) (ss : List (ℤ × ℤ)) (s : ℤ × ℤ) → Beyond low ss → slice_get ss i ≡ Some s → remove ss i ≡ remove_entry (is_at (int_cmp s.0)) ss
remove_is i low [] s all e = absurd (cc)
remove_is zero low (r ∷ ss) s all e = let same : r.0 ≡ s.0 = cc in rw (sym same, at_self r.0) refl
remove_is (suc i) low (r ∷ ss) s all e = rw (at_other s.0 r.0 (after_low i r.0 ss s all.2 e)) (ap (λ xs. r ∷ xs) (remove_is i r.0 ss s all.2 e))

less : (a b : ℤ) → a <ℤ b → int_cmp a b ≡ Less
less a b h = grind arith

greater : (a b : ℤ) → b <ℤ a → int_cmp a b ≡ Greater
greater a b h = grind arith

-- a stretch that touches none is put in at the place behind those that end before it
pub insert_is : (from to low : ℤ) (ss : List (ℤ × ℤ)) → joining from to ss ≡ None → from <ℤ to → Beyond low ss → insert ss (ended from ss) (to, from) ≡ insert_entry int_cmp ss to from
insert_is from to low [] e k all = refl
insert_is from to low (r ∷ ss) e k all = by (int_lt r.0 from) (int_lt to r.1) refl refl e (λ h. insert_is from to r.0 ss h k all.2) where
  by : (a b : Bool) → int_lt r.0 from ≡ a → int_lt to r.1 ≡ b → cond a (joining from to ss) (cond b None (Some r)) ≡ None
      → (joining from to ss ≡ None → insert ss (ended from ss) (to, from) ≡ insert_entry int_cmp ss to from) → insert (r ∷ ss) (ended from (r ∷ ss)) (to, from) ≡ insert_entry int_cmp (r ∷ ss) to from
  by true b f g e later = rw (f, greater to r.0 (omega (arith, ints))) (ap (λ xs. r ∷ xs) (later e))
  by false true f g e later = let m = all.1 in rw (f, less to r.0 (omega (arith, ints))) refl
  by false false f g e later = absurd (cc)

-- GAPS, A STRETCH AT A TIME

-- the stretch at a place ends too early
pub gap_skips : (start to end : ℤ) (i : ℕ) (ss : List (ℤ × ℤ)) (d : ℤ × ℤ) (left whole : List (Option plain.Period)) → i < length ss → end ≡ (get_or ss i d).0 → end ≤ℤ start → left ++ gaps start to (drop i ss) ≡ whole → left ++ gaps start to (drop (i + 1) ss) ≡ whole
gap_skips start to end i ss d left whole h ends early e =
    let g : gaps start to (get_or ss i d ∷ drop (i + 1) ss) ≡ gaps start to (drop (i + 1) ss) = rw (lt_false start (get_or ss i d).0 (let f = ends in omega (arith, ints))) refl in
    ap (λ xs. left ++ xs) (sym (ap (gaps start to) (drop_more ss i d h) ∙ g)) ∙ e

-- the stretch at a place begins too late
pub gap_stops : (start to end begin : ℤ) (i : ℕ) (ss : List (ℤ × ℤ)) (d : ℤ × ℤ) (left after whole : List (Option plain.Period)) → i < length ss → end ≡ (get_or ss i d).0 → begin ≡ (get_or ss i d).1 → start <ℤ end → to ≤ℤ begin → after ≡ left ++ part start to → left ++ gaps start to (drop i ss) ≡ whole → after ≡ whole
gap_stops start to end begin i ss d left after whole h ends begins early late made e =
    let g : gaps start to (get_or ss i d ∷ drop (i + 1) ss) ≡ part start to = rw (lt_true start (get_or ss i d).0 (let f = ends in omega (arith, ints)), lt_false (get_or ss i d).1 to (let f = begins in omega (arith, ints))) refl in
    made ∙ (ap (λ xs. left ++ xs) (sym (ap (gaps start to) (drop_more ss i d h) ∙ g)) ∙ e)

-- the stretch at a place begins before the end
pub gap_goes : (start to end begin first next : ℤ) (i : ℕ) (ss : List (ℤ × ℤ)) (d : ℤ × ℤ) (left after whole : List (Option plain.Period)) → i < length ss → end ≡ (get_or ss i d).0 → begin ≡ (get_or ss i d).1 → first ≡ (get_or ss i d).1 → next ≡ (get_or ss i d).0 → start <ℤ end → begin <ℤ to → after ≡ left ++ part start first → left ++ gaps start to (drop i ss) ≡ whole → after ++ gaps next to (drop (i + 1) ss) ≡ whole
gap_goes start to end begin first next i ss d left after whole h ends begins firsts nexts early soon made e =
    let g : gaps start to (get_or ss i d ∷ drop (i + 1) ss) ≡ part start (get_or ss i d).1 ++ gaps (get_or ss i d).0 to (drop (i + 1) ss) = rw (lt_true start (get_or ss i d).0 (let f = ends in omega (arith, ints)), lt_true (get_or ss i d).1 to (let f = begins in omega (arith, ints))) refl in
    ap (λ xs. xs ++ gaps next to (drop (i + 1) ss)) made ∙ (ap (λ z. (left ++ part start z) ++ gaps next to (drop (i + 1) ss)) firsts ∙ (ap (λ z. (left ++ part start (get_or ss i d).1) ++ gaps z to (drop (i + 1) ss)) nexts
    ∙ (append_assoc left (part start (get_or ss i d).1) (gaps (get_or ss i d).0 to (drop (i + 1) ss)) ∙ (ap (λ xs. left ++ xs) (sym (ap (gaps start to) (drop_more ss i d h) ∙ g)) ∙ e))))

-- no stretch is left
pub gap_ends : (start to : ℤ) (i : ℕ) (ss : List (ℤ × ℤ)) (left after whole : List (Option plain.Period)) → length ss ≤ i → after ≡ left ++ part start to → left ++ gaps start to (drop i ss) ≡ whole → after ≡ whole
gap_ends start to i ss left after whole none made e = made ∙ (ap (λ xs. left ++ gaps start to xs) (sym (drop_all i ss none)) ∙ e)

-- TAKING STRETCHES OUT

-- one stretch more is swallowed
pub take_more : (from to low high : ℤ) (at : ℕ) (s : ℤ × ℤ) (ss after : List (ℤ × ℤ)) (held : ℤ → Bool) → joining from to ss ≡ slice_get ss at → at < length ss → s ≡ get_or ss at s → after ≡ remove ss at → low ≡ int_min from s.1 → high ≡ int_max to s.0
    → Beyond before_all ss → from <ℤ to → ((t : ℤ) → (is_covered t ss || is_between t from to) ≡ held t)
    → Beyond before_all after × (low <ℤ high) × ((t : ℤ) → (is_covered t after || is_between t low high) ≡ held t)
take_more from to low high at s ss after held found there is made least most all h covers =
    swallow_more from to s.0 s.1 low high s.0 ss after held (found ∙ got at ss s there is) refl (made ∙ remove_is at before_all ss s all (got at ss s there is)) least most all h covers

-- PUTTING A STRETCH IN

pub put_in : (from to : ℤ) (at : ℕ) (ss after : List (ℤ × ℤ)) → joining from to ss ≡ None → from <ℤ to → Beyond before_all ss → at ≡ ended from ss → after ≡ insert ss at (to, from) → after ≡ insert_entry int_cmp ss to from
put_in from to at ss after alone h all is made = made ∙ (ap (λ i. insert ss i (to, from)) is ∙ insert_is from to before_all ss alone h all)

-- EACH STRETCH

pub stretch_full : (i : ℕ) (low : ℤ) (ss : List (ℤ × ℤ)) (d : ℤ × ℤ) → Beyond low ss → i < length ss → (get_or ss i d).1 <ℤ (get_or ss i d).0
stretch_full i low [] d all h = absurd (let k : i < 0 = h in omega arith)
stretch_full zero low (s ∷ ss) d all h = all.1
stretch_full (suc i) low (s ∷ ss) d all h = stretch_full i s.0 ss d all.2 (omega arith)
