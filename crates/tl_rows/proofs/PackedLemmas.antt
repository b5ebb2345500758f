-- Packed fields beside texts and wide numbers that grow.
use Rattle.std.proofs.Common.{◌≡◌, ℕ, ℤ, pos, ◌+◌, ◌-◌, ◌≤◌, List, [], ◌∷◌, ◌++◌, length, get_or, drop, take, map, suc, refl, sym, ap, ◌∙◌, arith, length-append}
use Rattle.std.proofs.Math.ListN.{get_or-append}
use Rattle.std.proofs.lemmas.List.{drop-append-le, drop-map, length-drop, map-append, take-append-le, take-map}
use Rattle.std.proofs.lemmas.List.Elements.{All-push, All-weaker}
use Rattle.std.specs.Prelude.{slice_range, All}
use Rattle.tl_rows.specs.declared.packed.Packed.{Packed}
use Rattle.tl_rows.specs.declared.packed.Packed.TheVariants as packed
use Rattle.tl_rows.specs.Packed.{field_in, GoesOn, IsWithin, StandsFor}
use Rattle.tl_types.specs.declared.answers.Field.{Field}
use Rattle.tl_types.specs.declared.answers.Field.TheVariants as field

pub number_stands : (texts : List ℕ) (wide : List ℤ) (z : ℤ) → StandsFor texts wide (packed.Number z) (field.Number z)
number_stands texts wide z = record { within = tt; shows = refl }

wide_last : (wide : List ℤ) (z : ℤ) → get_or (wide ++ z ∷ []) (length wide) (pos 0) ≡ z
wide_last [] z = refl
wide_last (x ∷ wide) z = wide_last wide z

-- a number that was appended to the wide ones
pub wide_stands : (texts : List ℕ) (wide : List ℤ) (z : ℤ) → StandsFor texts (wide ++ z ∷ []) (packed.Wide (length wide)) (field.Number z)
wide_stands texts wide z = record {
  within = omega (arith, length-append wide (z ∷ []));
  shows = ap (λ x. field.Number x) (wide_last wide z);
}

-- a ratio whose sum was appended
pub ratio_stands : (texts : List ℕ) (wide : List ℤ) (z : ℤ) (count : ℕ) → StandsFor texts (wide ++ z ∷ []) (packed.Ratio count (length wide)) (field.Ratio z count)
ratio_stands texts wide z count = record {
  within = omega (arith, length-append wide (z ∷ []));
  shows = ap (λ x. field.Ratio x count) (wide_last wide z);
}

-- a packed field stays inside lists that go on
stays_within : (m n k l : ℕ) (p : Packed) → IsWithin m n p → m ≤ k → n ≤ l → IsWithin k l p
stays_within m n k l (packed.Number z) h a b = tt
stays_within m n k l (packed.Wide place) h a b = omega arith
stays_within m n k l (packed.Text len start) h a b = omega arith
stays_within m n k l (packed.Ratio count place) h a b = omega arith
stays_within m n k l packed.Empty h a b = tt
stays_within m n k l packed.Forever h a b = tt

-- a text is found again where more bytes stand behind it
same_text : (texts more : List ℕ) (start len : ℕ) → start + len ≤ length texts → slice_range (texts ++ more) start (start + len) ≡ slice_range texts start (start + len)
same_text texts more start len h =
    let near : start ≤ length texts = omega arith in
    let fits : start + len - start ≤ length (drop start texts) = omega (arith, length-drop start texts) in
    rw (drop-append-le start texts more near) (take-append-le _ (drop start texts) more fits)

-- and stands for the same field
same_field : (texts more : List ℕ) (wide others : List ℤ) (p : Packed) → IsWithin (length texts) (length wide) p → field_in (texts ++ more) (wide ++ others) p ≡ field_in texts wide p
same_field texts more wide others (packed.Number z) h = refl
same_field texts more wide others (packed.Wide place) h = ap (λ x. field.Number x) (get_or-append wide others (pos 0) place h)
same_field texts more wide others (packed.Text len start) h = ap (λ x. field.Text x) (same_text texts more start len h)
same_field texts more wide others (packed.Ratio count place) h = ap (λ x. field.Ratio x count) (get_or-append wide others (pos 0) place h)
same_field texts more wide others packed.Empty h = refl
same_field texts more wide others packed.Forever h = refl

-- all packed fields stay inside
pub all_within : (texts longer : List ℕ) (wide wider : List ℤ) (fields : List Packed) → GoesOn texts longer → GoesOn wide wider → All (IsWithin (length texts) (length wide)) fields → All (IsWithin (length longer) (length wider)) fields
all_within texts longer wide wider fields (more, e) (others, f) h =
    let a : length texts ≤ length longer = rw e (omega (arith, length-append texts more)) in
    let b : length wide ≤ length wider = rw f (omega (arith, length-append wide others)) in
    All-weaker (IsWithin (length texts) (length wide)) (IsWithin (length longer) (length wider)) (λ p q. stays_within _ _ _ _ p q a b) fields h

-- and all stand for the same fields
same_behind : (texts more : List ℕ) (wide others : List ℤ) (fields : List Packed) → All (IsWithin (length texts) (length wide)) fields → map (field_in (texts ++ more) (wide ++ others)) fields ≡ map (field_in texts wide) fields
same_behind texts more wide others [] h = refl
same_behind texts more wide others (p ∷ fields) h =
    let first : IsWithin (length texts) (length wide) p = h 0 p (omega arith) in
    rw (same_field texts more wide others p first, same_behind texts more wide others fields (λ k d lt. h (suc k) d (omega arith))) refl

pub same_fields : (texts longer : List ℕ) (wide wider : List ℤ) (fields : List Packed) → GoesOn texts longer → GoesOn wide wider → All (IsWithin (length texts) (length wide)) fields → map (field_in longer wider) fields ≡ map (field_in texts wide) fields
same_fields texts longer wide wider fields (more, e) (others, f) h = rw (e, f) (same_behind texts more wide others fields h)

-- one packed field more
pub one_more : (texts longer : List ℕ) (wide wider : List ℤ) (fields : List Packed) (p : Packed) (shown : Field) → GoesOn texts longer → GoesOn wide wider → StandsFor longer wider p shown → All (IsWithin (length texts) (length wide)) fields → map (field_in longer wider) (fields ++ p ∷ []) ≡ map (field_in texts wide) fields ++ shown ∷ []
one_more texts longer wide wider fields p shown g w s h =
    rw (map-append (field_in longer wider) fields (p ∷ []), same_fields texts longer wide wider fields g w h, s.shows) refl

pub one_more_within : (texts longer : List ℕ) (wide wider : List ℤ) (fields : List Packed) (p : Packed) (shown : Field) → GoesOn texts longer → GoesOn wide wider → StandsFor longer wider p shown → All (IsWithin (length texts) (length wide)) fields → All (IsWithin (length longer) (length wider)) (fields ++ p ∷ [])
one_more_within texts longer wide wider fields p shown g w s h =
    All-push (IsWithin (length longer) (length wider)) fields p (all_within texts longer wide wider fields g w h) s.within

-- the fields of a range stand for the range of what all stand for
pub range_shown : (texts : List ℕ) (wide : List ℤ) (fields : List Packed) (start end : ℕ) → map (field_in texts wide) (slice_range fields start end) ≡ take (end - start) (drop start (map (field_in texts wide) fields))
range_shown texts wide fields start end =
    sym (ap (take (end - start)) (drop-map (field_in texts wide) start fields) ∙ take-map (field_in texts wide) (end - start) (drop start fields))
