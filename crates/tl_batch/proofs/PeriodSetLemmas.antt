-- Stretches with something between neighbours: adding one, and what lies between them.
use Rattle.std.proofs.Common.{◌≡◌, ◌<◌, length, append_assoc, FitsSigned, w64, ℤ, pos, negsuc, ◌≤ℤ◌, ◌<ℤ◌, int_lt, Bool, true, false, ◌&&◌, ◌||◌, not, cond, List, [], ◌∷◌, ◌++◌, Option, Some, None, refl, sym, ap, subst, ◌∙◌, arith}
use Rattle.std.specs.List.{list_any, filter}
use Rattle.std.specs.Int.{int_min, int_max}
use Rattle.std.specs.declared.cmp.Ordering.TheVariants.{Less, Greater}
use Rattle.std.specs.Ordering.{int_cmp}
use Rattle.std.specs.Map.{remove_entry}
use Rattle.std.specs.BTreeMap.{is_at, insert_entry}
use Rattle.std.specs.BTreeMap.Range.{range_contains, entries_between}
use Rattle.std.specs.declared.ops.Bound.TheVariants.{Included, Excluded, Unbounded}
use Rattle.std.proofs.lemmas.Int.{ints, clamps}
use Rattle.std.proofs.lemmas.List.Folds.{list_any-append}
use Rattle.tl_types.specs.Plain as plain
use Rattle.tl_types.specs.History.{is_within}
use Rattle.tl_batch.specs.Pieces.{part, cuts}
use Rattle.tl_batch.specs.Covers.{is_between, is_covered, Full, Beyond, before_all, joining, gaps, walk}
use Rattle.tl_batch.proofs.GapLemmas.{lt_true, lt_false, part_holds, Apart, join, cuts_are}

-- THE STRETCH OF TWO THAT TOUCH

-- two that are adjacent are one
union : (t from to start end : ℤ) → from ≤ℤ end → start ≤ℤ to → is_between t (int_min from start) (int_max to end) ≡ (is_between t start end || is_between t from to)
union t from to start end h k = grind (arith, ints, clamps)

-- TAKING AWAY A STRETCH THAT TOUCHES

pub adjacent_is : (from to : ℤ) (stretches : List (ℤ × ℤ)) (s : ℤ × ℤ) → joining from to stretches ≡ Some s → (from ≤ℤ s.0) × (s.1 ≤ℤ to)
adjacent_is from to [] s e = absurd (cc)
adjacent_is from to (r ∷ stretches) s e = grind (arith, ints, adjacent_is from to stretches s)

at_other : (a b : ℤ) → b <ℤ a → is_at (int_cmp a) b ≡ false
at_other a b h = grind arith

at_self : (a : ℤ) → is_at (int_cmp a) a ≡ true
at_self a = grind arith

nearer : (low next : ℤ) (stretches : List (ℤ × ℤ)) → low ≤ℤ next → Beyond next stretches → Beyond low stretches
nearer low next [] h all = tt
nearer low next (s ∷ stretches) h all = ((let l = all.0 in omega (arith, ints)), all.1, all.2)

removed_beyond : (from to low : ℤ) (stretches : List (ℤ × ℤ)) (s : ℤ × ℤ) → joining from to stretches ≡ Some s → Beyond low stretches → Beyond low (remove_entry (is_at (int_cmp s.0)) stretches)
removed_beyond from to low [] s e all = tt
removed_beyond from to low (r ∷ stretches) s e all = by (int_lt r.0 from) (int_lt to r.1) refl refl e (removed_beyond from to r.0 stretches s) where
  by : (a b : Bool) → int_lt r.0 from ≡ a → int_lt to r.1 ≡ b → cond a (joining from to stretches) (cond b None (Some r)) ≡ Some s
      → (joining from to stretches ≡ Some s → Beyond r.0 stretches → Beyond r.0 (remove_entry (is_at (int_cmp s.0)) stretches)) → Beyond low (remove_entry (is_at (int_cmp s.0)) (r ∷ stretches))
  by true b f g e later = let h = (adjacent_is from to stretches s e).0 in rw (at_other s.0 r.0 (omega (arith, ints))) (all.0, all.1, later e all.2)
  by false true f g e later = absurd (cc)
  by false false f g e later = grind (arith, at_self r.0, nearer low r.0 stretches (omega (arith, ints)) all.2)

-- the moments stay: what is taken away joins the stretch that it affects
removed_covers : (t from to low : ℤ) (stretches : List (ℤ × ℤ)) (s : ℤ × ℤ) → joining from to stretches ≡ Some s → Beyond low stretches
    → (is_covered t stretches || is_between t from to) ≡ (is_covered t (remove_entry (is_at (int_cmp s.0)) stretches) || is_between t (int_min from s.1) (int_max to s.0))
removed_covers t from to low [] s e all = absurd (cc)
removed_covers t from to low (r ∷ stretches) s e all = by (int_lt r.0 from) (int_lt to r.1) refl refl e (removed_covers t from to r.0 stretches s) where
  by : (a b : Bool) → int_lt r.0 from ≡ a → int_lt to r.1 ≡ b → cond a (joining from to stretches) (cond b None (Some r)) ≡ Some s
      → (joining from to stretches ≡ Some s → Beyond r.0 stretches → (is_covered t stretches || is_between t from to) ≡ (is_covered t (remove_entry (is_at (int_cmp s.0)) stretches) || is_between t (int_min from s.1) (int_max to s.0)))
      → ((is_between t r.1 r.0 || is_covered t stretches) || is_between t from to) ≡ (is_covered t (remove_entry (is_at (int_cmp s.0)) (r ∷ stretches)) || is_between t (int_min from s.1) (int_max to s.0))
  by true b f g e later =
      let h = (adjacent_is from to stretches s e).0 in
      rw (at_other s.0 r.0 (omega (arith, ints))) (grind (arith, later e all.2))
  by false true f g e later = absurd (cc)
  by false false f g e later =
      let same : r ≡ s = cc in
      rw (sym same, at_self r.0, union t from to r.1 r.0 (omega (arith, ints)) (omega (arith, ints))) (grind arith)

-- PUTTING A STRETCH THAT TOUCHES NONE

less : (a b : ℤ) → a <ℤ b → int_cmp a b ≡ Less
less a b h = grind arith

greater : (a b : ℤ) → b <ℤ a → int_cmp a b ≡ Greater
greater a b h = grind arith

inserted_beyond : (from to low : ℤ) (stretches : List (ℤ × ℤ)) → joining from to stretches ≡ None → low <ℤ from → from <ℤ to → Beyond low stretches → Beyond low (insert_entry int_cmp stretches to from)
inserted_beyond from to low [] e h k all = (h, k, tt)
inserted_beyond from to low (r ∷ stretches) e h k all = grind (arith, ints, inserted_beyond from to r.0 stretches)

inserted_covers : (t from to low : ℤ) (stretches : List (ℤ × ℤ)) → joining from to stretches ≡ None → from <ℤ to → Beyond low stretches → is_covered t (insert_entry int_cmp stretches to from) ≡ (is_between t from to || is_covered t stretches)
inserted_covers t from to low [] e k all = refl
inserted_covers t from to low (r ∷ stretches) e k all = grind (arith, ints, inserted_covers t from to r.0 stretches)

-- GAPS

part_apart : (low high from to : ℤ) → low ≤ℤ from → to ≤ℤ high → Apart low high (part from to)
part_apart low high from to l h = grind arith

pub gaps_apart : (from to low : ℤ) (stretches : List (ℤ × ℤ)) → Beyond low stretches → Apart from to (gaps from to stretches)
gaps_apart from to low [] all = part_apart from to from to (omega (arith, ints)) (omega (arith, ints))
gaps_apart from to low (s ∷ stretches) all = by (int_lt from s.0) (int_lt s.1 to) refl refl (gaps_apart from to s.0 stretches all.2) (gaps_apart s.0 to s.0 stretches all.2) where
  by : (a b : Bool) → int_lt from s.0 ≡ a → int_lt s.1 to ≡ b → Apart from to (gaps from to stretches) → Apart s.0 to (gaps s.0 to stretches) → Apart from to (cond a (cond b (part from s.1 ++ gaps s.0 to stretches) (part from to)) (gaps from to stretches))
  by true true e f here later = join from s.1 s.0 to (part from s.1) (gaps s.0 to stretches) (omega (arith, ints)) all.1 (omega (arith, ints)) (part_apart from s.1 from s.1 (omega (arith, ints)) (omega (arith, ints))) later
  by true false e f here later = part_apart from to from to (omega (arith, ints)) (omega (arith, ints))
  by false b e f here later = here

covered_late : (t low : ℤ) (stretches : List (ℤ × ℤ)) → Beyond low stretches → t ≤ℤ low → is_covered t stretches ≡ false
covered_late t low [] all h = refl
covered_late t low (s ∷ stretches) all h = grind (arith, covered_late t s.0 stretches all.2 (omega (arith, ints)))

covered_before : (t before low : ℤ) (stretches : List (ℤ × ℤ)) → Beyond low stretches → before ≤ℤ low → (int_lt t before && is_covered t stretches) ≡ false
covered_before t before low stretches all h = by (int_lt t before) refl where
  by : (b : Bool) → int_lt t before ≡ b → (b && is_covered t stretches) ≡ false
  by true e = covered_late t low stretches all (omega (arith, ints))
  by false e = refl

gaps_hold : (t from to low : ℤ) (stretches : List (ℤ × ℤ)) → Beyond low stretches → list_any (is_within t) (gaps from to stretches) ≡ (is_between t from to && not (is_covered t stretches))
gaps_hold t from to low [] all = part_holds t from to ∙ (grind arith)
gaps_hold t from to low (s ∷ stretches) all =
    let m = all.1 in
    let here = gaps_hold t from to s.0 stretches all.2 in
    let later = gaps_hold t s.0 to s.0 stretches all.2 in
    let both = list_any-append (is_within t) (part from s.1) (gaps s.0 to stretches) in
    let one = part_holds t from s.1 in
    let whole = part_holds t from to in
    let late = covered_before t s.0 s.0 stretches all.2 (omega (arith, ints)) in
    grind (arith, ints)

-- the gaps of a period in what lines cover are what the lines leave of it
pub gaps_are : (lines : List (Option plain.Period)) (p : plain.Period) (low : ℤ) (stretches : List (ℤ × ℤ)) → Full lines → p.from <ℤ p.to → Beyond low stretches → ((t : ℤ) → is_covered t stretches ≡ list_any (is_within t) lines) → gaps p.from p.to stretches ≡ cuts true lines (Some p)
gaps_are lines p low stretches full h all same =
    cuts_are lines (gaps p.from p.to stretches) p p.to full h (gaps_apart p.from p.to low stretches all) (λ t. gaps_hold t p.from p.to low stretches all ∙ ap (λ b. is_between t p.from p.to && not b) (same t))

-- A RANGE OF STRETCHES

abbrev ends_after : ℤ → ℤ × ℤ → Bool
ends_after from s = int_lt from s.0

walk_is : (from to low : ℤ) (stretches : List (ℤ × ℤ)) → from ≤ℤ low → Beyond low stretches → walk from to stretches ≡ gaps from to stretches
walk_is from to low [] h all = refl
walk_is from to low (s ∷ stretches) h all = grind (arith, lt_true from s.0 (omega (arith, ints)), walk_is s.0 to s.0 stretches (omega (arith, ints)) all.2)

kept_all : (from low : ℤ) (stretches : List (ℤ × ℤ)) → from ≤ℤ low → Beyond low stretches → filter (ends_after from) stretches ≡ stretches
kept_all from low [] h all = refl
kept_all from low (s ∷ stretches) h all = grind (arith, lt_true from s.0 (omega (arith, ints)), kept_all from s.0 stretches (omega (arith, ints)) all.2)

walk_gaps : (from to low : ℤ) (stretches : List (ℤ × ℤ)) → Beyond low stretches → walk from to (filter (ends_after from) stretches) ≡ gaps from to stretches
walk_gaps from to low [] all = refl
walk_gaps from to low (s ∷ stretches) all = by (int_lt from s.0) refl (walk_gaps from to s.0 stretches all.2) where
  by : (b : Bool) → int_lt from s.0 ≡ b → walk from to (filter (ends_after from) stretches) ≡ gaps from to stretches
      → walk from to (cond b (s ∷ filter (ends_after from) stretches) (filter (ends_after from) stretches)) ≡ cond b (cond (int_lt s.1 to) (part from s.1 ++ gaps s.0 to stretches) (part from to)) (gaps from to stretches)
  by true e later = cc (kept_all from s.0 stretches (omega (arith, ints)) all.2, walk_is s.0 to s.0 stretches (omega (arith, ints)) all.2)
  by false e later = later

-- the first of the stretches from an end on, where it begins early enough
abbrev pub near : ℤ → List (ℤ × ℤ) → Option (ℤ × ℤ)
near to [] = None
near to (s ∷ stretches) = cond (int_lt to s.1) None (Some s)

ends_from : (from : ℤ) (end : ℤ) → range_contains int_cmp (Included from) Unbounded end ≡ not (int_lt end from)
ends_from from end = grind arith

adjacent_near : (from to : ℤ) (stretches : List (ℤ × ℤ)) → joining from to stretches ≡ near to (entries_between int_cmp (Included from) Unbounded stretches)
adjacent_near from to [] = refl
adjacent_near from to (s ∷ stretches) = grind (arith, ends_from from s.0, adjacent_near from to stretches)

pub near_none : (from to : ℤ) (stretches range : List (ℤ × ℤ)) → range ≡ entries_between int_cmp (Included from) Unbounded stretches → range ≡ [] → None ≡ joining from to stretches
near_none from to stretches range is none = sym (adjacent_near from to stretches ∙ ap (near to) (sym is ∙ none))

pub near_some : (from to : ℤ) (stretches range rest : List (ℤ × ℤ)) (end start first second : ℤ) → range ≡ entries_between int_cmp (Included from) Unbounded stretches → range ≡ (first, second) ∷ rest → end ≡ first → start ≡ second → start ≤ℤ to → Some (end, start) ≡ joining from to stretches
near_some from to stretches range rest end start first second is some e f h = cc (adjacent_near from to stretches, lt_false to start h)

pub near_past : (from to : ℤ) (stretches range rest : List (ℤ × ℤ)) (start first second : ℤ) → range ≡ entries_between int_cmp (Included from) Unbounded stretches → range ≡ (first, second) ∷ rest → start ≡ second → to <ℤ start → None ≡ joining from to stretches
near_past from to stretches range rest start first second is some f h = cc (adjacent_near from to stretches, lt_true to start h)

-- one is fewer
removed_fewer : (from to : ℤ) (stretches : List (ℤ × ℤ)) (s : ℤ × ℤ) → joining from to stretches ≡ Some s → length (remove_entry (is_at (int_cmp s.0)) stretches) < length stretches
removed_fewer from to [] s e = absurd (cc)
removed_fewer from to (r ∷ stretches) s e = grind (arith, removed_fewer from to stretches s)

-- STEPS OF LOOPS

widened : (from to start end : ℤ) → from <ℤ to → int_min from start <ℤ int_max to end
widened from to start end h = omega (arith, ints, clamps)

-- a stretch more is swallowed
pub swallow_more : (from to end start low high at : ℤ) (stretches after : List (ℤ × ℤ)) (held : ℤ → Bool) → joining from to stretches ≡ Some (end, start) → at ≡ end → after ≡ remove_entry (is_at (int_cmp at)) stretches → low ≡ int_min from start → high ≡ int_max to end
    → Beyond before_all stretches → from <ℤ to → ((t : ℤ) → (is_covered t stretches || is_between t from to) ≡ held t)
    → Beyond before_all after × (low <ℤ high) × ((t : ℤ) → (is_covered t after || is_between t low high) ≡ held t)
swallow_more from to end start low high at stretches after held found same made least most all h covers =
    let is : after ≡ remove_entry (is_at (int_cmp end)) stretches = made ∙ ap (λ z. remove_entry (is_at (int_cmp z)) stretches) same in (
      subst (Beyond before_all) (sym is) (removed_beyond from to before_all stretches (end, start) found all),
      rw (least, most) (widened from to start end h),
      (λ t. ap (λ ss. is_covered t ss || is_between t low high) is
          ∙ (ap (λ z. is_covered t (remove_entry (is_at (int_cmp end)) stretches) || is_between t z high) least
          ∙ (ap (λ z. is_covered t (remove_entry (is_at (int_cmp end)) stretches) || is_between t (int_min from start) z) most
          ∙ (sym (removed_covers t from to before_all stretches (end, start) found all) ∙ covers t)))),
    )

pub swallow_fewer : (from to end start at : ℤ) (stretches after : List (ℤ × ℤ)) → joining from to stretches ≡ Some (end, start) → at ≡ end → after ≡ remove_entry (is_at (int_cmp at)) stretches → length after < length stretches
swallow_fewer from to end start at stretches after found same made = grind (arith, removed_fewer from to stretches (end, start) found)

pub after_all : (z : ℤ) → FitsSigned w64 z → before_all <ℤ z
after_all (pos n) f = omega (arith, ints)
after_all (negsuc n) f = let h = f.sfits in omega (arith, ints)

pub put_beyond : (from to low high : ℤ) (stretches after : List (ℤ × ℤ)) → joining from to stretches ≡ None → before_all <ℤ from → from <ℤ to → Beyond before_all stretches → low ≡ from → high ≡ to → after ≡ insert_entry int_cmp stretches high low → Beyond before_all after
put_beyond from to low high stretches after alone h k all e f made = grind (arith, inserted_beyond from to before_all stretches alone h k all)

pub put_covers : (t from to low high : ℤ) (stretches after : List (ℤ × ℤ)) → joining from to stretches ≡ None → from <ℤ to → Beyond before_all stretches → low ≡ from → high ≡ to → after ≡ insert_entry int_cmp stretches high low → is_covered t after ≡ (is_between t from to || is_covered t stretches)
put_covers t from to low high stretches after alone k all e f made = grind (arith, inserted_covers t from to before_all stretches alone k all)

pub ends_past : (from end : ℤ) → range_contains int_cmp (Excluded from) Unbounded end ≡ int_lt from end
ends_past from end = grind arith

-- the walk along a range is that along all
pub range_gaps : (from to first until : ℤ) (range given stretches all : List (ℤ × ℤ)) → given ≡ range → range ≡ entries_between int_cmp (Excluded first) Unbounded stretches → first ≡ from → until ≡ to → Beyond before_all stretches → stretches ≡ all → walk from until given ≡ gaps from to all
range_gaps from to first until range given stretches all same is e f beyond view = grind (arith, walk_gaps from until before_all stretches beyond)

pub gaps_stop : (to cursor end start : ℤ) (left new all : List (Option plain.Period)) (stretches rest : List (ℤ × ℤ)) → stretches ≡ (end, start) ∷ rest → to ≤ℤ start → new ≡ left ++ part cursor to → left ++ walk cursor to stretches ≡ all → new ≡ all
gaps_stop to cursor end start left new all stretches rest is h made e = grind (arith, lt_false start to h)

pub gaps_next : (to cursor next end start : ℤ) (left new all : List (Option plain.Period)) (stretches rest : List (ℤ × ℤ)) → stretches ≡ (end, start) ∷ rest → start <ℤ to → next ≡ end → new ≡ left ++ part cursor start → left ++ walk cursor to stretches ≡ all → new ++ walk next to rest ≡ all
gaps_next to cursor next end start left new all stretches rest is h same made e =
    ap (λ z. new ++ walk z to rest) same ∙ (ap (λ ps. ps ++ walk end to rest) made ∙ (append_assoc left (part cursor start) (walk end to rest)
    ∙ (ap (λ b. left ++ cond b (part cursor start ++ walk end to rest) (part cursor to)) (sym (lt_true start to h)) ∙ (ap (λ ss. left ++ walk cursor to ss) (sym is) ∙ e))))

pub gaps_past : (to cursor : ℤ) (left new all : List (Option plain.Period)) (stretches : List (ℤ × ℤ)) → stretches ≡ [] → new ≡ left ++ part cursor to → left ++ walk cursor to stretches ≡ all → new ≡ all
gaps_past to cursor left new all stretches is made e = made ∙ (ap (λ ss. left ++ walk cursor to ss) (sym is) ∙ e)

-- what lines leave of a period, by the stretches that cover the lines' moments
pub left_by_lines : (lines left : List (Option plain.Period)) (p : plain.Period) (stretches all : List (ℤ × ℤ)) → left ≡ gaps p.from p.to all → stretches ≡ all → Beyond before_all stretches → p.from <ℤ p.to → Full lines → ((t : ℤ) → is_covered t all ≡ list_any (is_within t) lines) → left ≡ cuts true lines (Some p)
left_by_lines lines left p stretches all made view beyond h full same =
    made ∙ (ap (gaps p.from p.to) (sym view) ∙ gaps_are lines p before_all stretches full h beyond (λ t. ap (is_covered t) view ∙ same t))
