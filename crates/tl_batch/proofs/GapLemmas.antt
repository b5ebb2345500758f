-- What lines leave of a period depends only on the moments that they cover.
use Rattle.std.proofs.Common.{◌≡◌, ℤ, pos, ◌+ℤ◌, ◌≤ℤ◌, ◌<ℤ◌, int_lt, int_le, Bool, true, false, ◌&&◌, not, cond, List, [], ◌∷◌, ◌++◌, append-nil, Option, Some, None, refl, sym, ap, subst, ◌∙◌, arith}
use Rattle.std.specs.List.{list_any, flat_map}
use Rattle.std.proofs.lemmas.Int.{ints, by_lt_z}
use Rattle.std.proofs.lemmas.Grind.{flat_map-append}
use Rattle.std.proofs.lemmas.List.Folds.{list_any-append}
use Rattle.tl_types.specs.Plain as plain
use Rattle.tl_types.specs.History.{is_within}
use Rattle.tl_batch.specs.Pieces.{part, cut, cuts}
use Rattle.tl_batch.specs.Covers.{Full}

-- the periods lie between two moments in order, none is empty, and there is something between neighbours
abbrev pub Apart : ℤ → ℤ → List (Option plain.Period) → Type 0
Apart low high [] = Unit {0}
Apart low high (None ∷ ps) = ⊥
Apart low high (Some p ∷ ps) = (low ≤ℤ p.from) × (p.from <ℤ p.to) × (p.to ≤ℤ high) × Apart (p.to +ℤ pos 1) high ps

-- TESTS

pub lt_true : (a b : ℤ) → a <ℤ b → int_lt a b ≡ true
lt_true a b h = grind arith

pub lt_false : (a b : ℤ) → b ≤ℤ a → int_lt a b ≡ false
lt_false a b h = grind arith

pub within_true : (t : ℤ) (p : plain.Period) → p.from ≤ℤ t → t <ℤ p.to → is_within t (Some p) ≡ true
within_true t p h k = grind arith

within_early : (t : ℤ) (p : plain.Period) → t <ℤ p.from → is_within t (Some p) ≡ false
within_early t p h = grind arith

within_late : (t : ℤ) (p : plain.Period) → p.to ≤ℤ t → is_within t (Some p) ≡ false
within_late t p h = grind arith

-- LISTS THAT ARE APART

before : (low high : ℤ) (ps : List (Option plain.Period)) (t : ℤ) → Apart low high ps → t <ℤ low → list_any (is_within t) ps ≡ false
before low high [] t all h = refl
before low high (None ∷ ps) t all h = absurd (all)
before low high (Some p ∷ ps) t all h = grind (arith, within_early t p (omega (arith, ints)), before (p.to +ℤ pos 1) high ps t all.3 (omega (arith, ints)))

in_first : (p : plain.Period) (ps : List (Option plain.Period)) → p.from <ℤ p.to → list_any (is_within p.from) (Some p ∷ ps) ≡ true
in_first p ps h = grind arith

not_before : (low high : ℤ) (q : plain.Period) (qs : List (Option plain.Period)) (t : ℤ) → Apart low high (Some q ∷ qs) → list_any (is_within t) (Some q ∷ qs) ≡ true → q.from ≤ℤ t
not_before low high q qs t all e =
    by_lt_z t q.from (λ h. absurd (let f : list_any (is_within t) (Some q ∷ qs) ≡ false = before q.from high (Some q ∷ qs) t (omega (arith, ints), all.1, all.2, all.3) h in cc)) (λ h. h)

past_first : (p : plain.Period) (ps : List (Option plain.Period)) (t : ℤ) → p.to ≤ℤ t → list_any (is_within t) (Some p ∷ ps) ≡ list_any (is_within t) ps
past_first p ps t h = rw (within_late t p h)

end_within : (low high : ℤ) (p q : plain.Period) (ps qs : List (Option plain.Period)) → Apart low high (Some p ∷ ps) → q.from ≤ℤ p.to → list_any (is_within p.to) (Some p ∷ ps) ≡ list_any (is_within p.to) (Some q ∷ qs) → q.to ≤ℤ p.to
end_within low high p q ps qs all h e = grind (arith, past_first p ps p.to (omega (arith, ints)), before (p.to +ℤ pos 1) high ps p.to all.3 (omega (arith, ints)))

-- lists that are apart and hold the same moments are the same
pub same_apart : (low high end : ℤ) (ps qs : List (Option plain.Period)) → Apart low high ps → Apart low end qs → ((t : ℤ) → list_any (is_within t) ps ≡ list_any (is_within t) qs) → ps ≡ qs
same_apart low high end [] [] a b same = refl
same_apart low high end [] (None ∷ qs) a b same = absurd (b)
same_apart low high end [] (Some q ∷ qs) a b same = absurd (let e = in_first q qs b.1 in let f = same q.from in cc)
same_apart low high end (None ∷ ps) qs a b same = absurd (a)
same_apart low high end (Some p ∷ ps) [] a b same = absurd (let e = in_first p ps a.1 in let f = same p.from in cc)
same_apart low high end (Some p ∷ ps) (None ∷ qs) a b same = absurd (b)
same_apart low high end (Some p ∷ ps) (Some q ∷ qs) a b same =
    ap (λ z. Some (record { from = z; to = p.to }) ∷ ps) from ∙ (ap (λ z. Some (record { from = q.from; to = z }) ∷ ps) to
    ∙ ap (λ rs. Some q ∷ rs) (same_apart (p.to +ℤ pos 1) high end ps qs a.3 (subst (λ z. Apart (z +ℤ pos 1) end qs) (sym to) b.3) rest)) where
      from : p.from ≡ q.from
      from = grind (arith, not_before low end q qs p.from b (sym (same p.from) ∙ in_first p ps a.1), in_first p ps a.1, not_before low high p ps q.from a (same q.from ∙ in_first q qs b.1), in_first q qs b.1)

      to : p.to ≡ q.to
      to =
          let e = from in
          let f = a.1 in
          let g = b.1 in
          let h = end_within low high p q ps qs a (omega (arith, ints)) (same p.to) in
          let k = end_within low end q p qs ps b (omega (arith, ints)) (sym (same q.to)) in
          omega (arith, ints)

      rest : (t : ℤ) → list_any (is_within t) ps ≡ list_any (is_within t) qs
      rest t = by_lt_z t (p.to +ℤ pos 1)
          (λ h. before (p.to +ℤ pos 1) high ps t a.3 h ∙ sym (before (q.to +ℤ pos 1) end qs t b.3 (let e = to in omega (arith, ints))))
          (λ h. sym (past_first p ps t (omega (arith, ints))) ∙ (same t ∙ past_first q qs t (let e = to in omega (arith, ints))))

-- WHAT LINES LEAVE, BY ITS MOMENTS

pub part_holds : (t from to : ℤ) → list_any (is_within t) (part from to) ≡ (int_le from t && int_lt t to)
part_holds t from to = grind arith

-- what a line leaves of a period has the period's moments but the line's
cut_holds : (t : ℤ) (line whole : Option plain.Period) → list_any (is_within t) (cut true line whole) ≡ (is_within t whole && not (is_within t line))
cut_holds t line None = refl
cut_holds t None (Some p) = grind arith
cut_holds t (Some q) (Some p) = grind (arith, ints)

any_cuts : (t : ℤ) (lines wholes : List (Option plain.Period)) → ((whole : Option plain.Period) → list_any (is_within t) (cuts true lines whole) ≡ (is_within t whole && not (list_any (is_within t) lines))) → list_any (is_within t) (flat_map (cuts true lines) wholes) ≡ (list_any (is_within t) wholes && not (list_any (is_within t) lines))
any_cuts t lines [] each = refl
any_cuts t lines (w ∷ wholes) each = grind (arith, list_any-append (is_within t) (cuts true lines w) (flat_map (cuts true lines) wholes), each w, any_cuts t lines wholes each)

-- what lines leave of a period has the period's moments but the lines'
pub cuts_holds : (t : ℤ) (lines : List (Option plain.Period)) (whole : Option plain.Period) → list_any (is_within t) (cuts true lines whole) ≡ (is_within t whole && not (list_any (is_within t) lines))
cuts_holds t [] whole = grind arith
cuts_holds t (line ∷ lines) whole = grind (arith, any_cuts t lines (cut true line whole) (cuts_holds t lines), cut_holds t line whole)

-- WHAT LINES LEAVE IS APART

lower : (low next high : ℤ) (ps : List (Option plain.Period)) → low ≤ℤ next → Apart next high ps → Apart low high ps
lower low next high [] h all = tt
lower low next high (None ∷ ps) h all = absurd (all)
lower low next high (Some p ∷ ps) h all = ((let l = all.0 in omega (arith, ints)), all.1, all.2, all.3)

pub join : (low mid next high : ℤ) (ps qs : List (Option plain.Period)) → low ≤ℤ next → mid <ℤ next → mid ≤ℤ high → Apart low mid ps → Apart next high qs → Apart low high (ps ++ qs)
join low mid next high [] qs h k l a b = lower low next high qs h b
join low mid next high (None ∷ ps) qs h k l a b = absurd (a)
join low mid next high (Some p ∷ ps) qs h k l a b = grind (arith, join (p.to +ℤ pos 1) mid next high ps qs (omega (arith, ints)) k l a.3 b)

-- what lines leave of each period lies in it
abbrev Kept : List (Option plain.Period) → Type 0
Kept lines = (low high : ℤ) (p : plain.Period) → low ≤ℤ p.from → p.from <ℤ p.to → p.to ≤ℤ high → Apart low high (cuts true lines (Some p))

one_apart : (lines : List (Option plain.Period)) (low high : ℤ) (p : plain.Period) → Kept lines → low ≤ℤ p.from → p.from <ℤ p.to → p.to ≤ℤ high → Apart low high (flat_map (cuts true lines) (Some p ∷ []))
one_apart lines low high p kept l m h = rw append-nil (kept low high p l m h)

piece_apart : (lines : List (Option plain.Period)) (low high from to : ℤ) → Kept lines → low ≤ℤ from → to ≤ℤ high → Apart low high (flat_map (cuts true lines) (part from to))
piece_apart lines low high from to kept l h = by (int_lt from to) refl where
  by : (b : Bool) → int_lt from to ≡ b → Apart low high (flat_map (cuts true lines) (cond b (Some (record { from = from; to = to }) ∷ []) []))
  by true e = one_apart lines low high (record { from = from; to = to }) kept l (omega (arith, ints)) h
  by false e = tt

pub cuts_apart : (lines : List (Option plain.Period)) → Full lines → Kept lines
cuts_apart [] full low high p l m h = (l, m, h, tt)
cuts_apart (None ∷ lines) full low high p l m h = one_apart lines low high p (cuts_apart lines full) l m h
cuts_apart (Some q ∷ lines) full low high p l m h = by (int_lt p.from q.to) (int_lt q.from p.to) refl refl (cuts_apart lines full.1) where
  by : (a b : Bool) → int_lt p.from q.to ≡ a → int_lt q.from p.to ≡ b → Kept lines → Apart low high (flat_map (cuts true lines) (cond (a && b) (part p.from q.from ++ part q.to p.to) (Some p ∷ [])))
  by true true e f kept = grind (arith, flat_map-append (cuts true lines) (part p.from q.from) (part q.to p.to), join low q.from q.to high (flat_map (cuts true lines) (part p.from q.from)) (flat_map (cuts true lines) (part q.to p.to)) (omega (arith, ints)) full.0 (omega (arith, ints)) (piece_apart lines low q.from p.from q.from kept l (omega (arith, ints))) (piece_apart lines q.to high q.to p.to kept (omega (arith, ints)) h), piece_apart lines low q.from p.from q.from kept l (omega (arith, ints)), piece_apart lines q.to high q.to p.to kept (omega (arith, ints)) h)
  by true false e f kept = one_apart lines low high p kept l m h
  by false b e f kept = one_apart lines low high p kept l m h

-- what lines leave of a period is the one list that is apart and has the period's moments but the lines'
pub cuts_are : (lines left : List (Option plain.Period)) (p : plain.Period) (high : ℤ) → Full lines → p.from <ℤ p.to → Apart p.from high left → ((t : ℤ) → list_any (is_within t) left ≡ (is_within t (Some p) && not (list_any (is_within t) lines))) → left ≡ cuts true lines (Some p)
cuts_are lines left p high full m apart holds =
    same_apart p.from high p.to left (cuts true lines (Some p)) apart (cuts_apart lines full p.from p.to p (omega (arith, ints)) m (omega (arith, ints))) (λ t. holds t ∙ sym (cuts_holds t lines (Some p)))
