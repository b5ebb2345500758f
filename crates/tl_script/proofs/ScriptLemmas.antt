-- What the definitions of a script say of the pieces that the code takes.
use Rattle.std.proofs.Common.{◌≡◌, ℕ, ◌+◌, ◌<◌, ◌==◌, Bool, true, false, cond, ltb, List, [], ◌∷◌, ◌++◌, length, take, drop, get_or, Some, None, refl, ap, sym, ◌∙◌, arith, tests, suc, not, ◌&&◌}
use Rattle.std.specs.List.{position_or_len, prefix_len, before_first, after_first, position}
use Rattle.std.specs.Str.{IsUtf8, is_utf8}
use Rattle.std.proofs.lemmas.Str.{is_utf8-from_IsUtf8, IsUtf8-from_is_utf8, IsUtf8-take, IsUtf8-drop, IsCharBoundary-before_ascii, IsCharBoundary-after_ascii}
use Rattle.std.proofs.Common.{length-append, subst}
use Rattle.std.proofs.lemmas.List.{drop-drop}
use Rattle.std.proofs.lemmas.Bool.{ltb-true, ltb-false, lt-ltb, ltb_from_iff, eqb-true}
use Rattle.std.proofs.Math.Seq.{take-append_seam, get_or-append_seam}
use Rattle.std.proofs.lemmas.List.Sums.{prefix_len-le-length, passes_at_first}
use Rattle.tl_script.specs.Script.{is_blank, lines_of, is_session_name, trimmed, statement_of, without_last, without_blanks_before, without_blanks_after, stands_in}

-- LINES

abbrev pub is_lf : ℕ → Bool
is_lf b = b == 10

pub line_goes_on : (b : ℕ) (bytes line : List ℕ) (lines : List (List ℕ)) → is_lf b ≡ false → lines_of bytes ≡ line ∷ lines → lines_of (b ∷ bytes) ≡ (b ∷ line) ∷ lines
line_goes_on b bytes line lines e h = rw (e, h)

-- without an LF
pub last_line : (b : ℕ) (bytes : List ℕ) → position_or_len is_lf (b ∷ bytes) ≡ length (b ∷ bytes) → lines_of (b ∷ bytes) ≡ (b ∷ bytes) ∷ []
last_line b [] h = by_test (is_lf b) refl where
  by_test : (t : Bool) → is_lf b ≡ t → lines_of (b ∷ []) ≡ (b ∷ []) ∷ []
  by_test true e = rw e
  by_test false e = rw e
last_line b (x ∷ xs) h = by_test (is_lf b) refl (last_line x xs) where
  by_test : (t : Bool) → is_lf b ≡ t → (position_or_len is_lf (x ∷ xs) ≡ length (x ∷ xs) → lines_of (x ∷ xs) ≡ (x ∷ xs) ∷ []) → lines_of (b ∷ x ∷ xs) ≡ (b ∷ x ∷ xs) ∷ []
  by_test true e more = absurd (omega (arith, rw e at h))
  by_test false e more = line_goes_on b (x ∷ xs) _ _ e (more (omega (arith, rw e at h)))

pub position_none : (p : ℕ → Bool) (xs : List ℕ) → position p xs ≡ None → position_or_len p xs ≡ length xs
position_none p xs h = by_test (ltb (position_or_len p xs) (length xs)) refl where
  by_test : (t : Bool) → ltb (position_or_len p xs) (length xs) ≡ t → position_or_len p xs ≡ length xs
  by_test true e = absurd (let f = rw e at h in cc)
  by_test false e = omega (arith, ltb-false _ _ e, prefix_len-le-length (λ x. not (p x)) xs)

pub position_some : (p : ℕ → Bool) (xs : List ℕ) (at : ℕ) → position p xs ≡ Some at → (position_or_len p xs ≡ at) × (at < length xs)
position_some p xs at h = by_test (ltb (position_or_len p xs) (length xs)) refl where
  by_test : (t : Bool) → ltb (position_or_len p xs) (length xs) ≡ t → (position_or_len p xs ≡ at) × (at < length xs)
  by_test true e = let f : position_or_len p xs ≡ at = (let g = rw e at h in cc) in (f, omega (arith, ltb-true _ _ e))
  by_test false e = absurd (let f = rw e at h in cc)

pub drops_last : (b x : ℕ) (xs : List ℕ) → (x == b) ≡ true → without_last b (xs ++ (x ∷ [])) ≡ xs
drops_last b x [] e = rw e
drops_last b x (y ∷ []) e = rw e
drops_last b x (y ∷ z ∷ zs) e = ap (λ r. y ∷ r) (drops_last b x (z ∷ zs) e)

pub keeps_last : (b x : ℕ) (xs : List ℕ) → (x == b) ≡ false → without_last b (xs ++ (x ∷ [])) ≡ xs ++ (x ∷ [])
keeps_last b x [] e = rw e
keeps_last b x (y ∷ []) e = rw e
keeps_last b x (y ∷ z ∷ zs) e = ap (λ r. y ∷ r) (keeps_last b x (z ∷ zs) e)

-- BLANKS

pub blank_is_ascii : (b : ℕ) → is_blank b ≡ true → b < 128
blank_is_ascii b e = grind (arith, tests)

pub drops_blank_before : (b : ℕ) (bytes : List ℕ) → is_blank b ≡ true → without_blanks_before (b ∷ bytes) ≡ without_blanks_before bytes
drops_blank_before b bytes e = rw e

pub keeps_before : (b : ℕ) (bytes : List ℕ) → is_blank b ≡ false → without_blanks_before (b ∷ bytes) ≡ b ∷ bytes
keeps_before b bytes e = rw e

pub drops_blank_after : (b : ℕ) (bytes : List ℕ) → is_blank b ≡ true → without_blanks_after (bytes ++ (b ∷ [])) ≡ without_blanks_after bytes
drops_blank_after b [] e = rw e
drops_blank_after b (x ∷ xs) e = rw (drops_blank_after b xs e)

pub keeps_after : (b : ℕ) (bytes : List ℕ) → is_blank b ≡ false → without_blanks_after (bytes ++ (b ∷ [])) ≡ bytes ++ (b ∷ [])
keeps_after b [] e = rw e
keeps_after b (x ∷ []) e = rw (keeps_after b [] e)
keeps_after b (x ∷ y ∷ ys) e = rw (keeps_after b (y ∷ ys) e)

-- TEXT

pub utf8_rest : (b : ℕ) (bytes : List ℕ) → is_blank b ≡ true → IsUtf8 (b ∷ bytes) → IsUtf8 bytes
utf8_rest b bytes e u = IsUtf8-drop (b ∷ bytes) 1 u (IsCharBoundary-after_ascii (b ∷ bytes) 0 u (omega arith) (blank_is_ascii b e))

pub utf8_prefix : (b : ℕ) (bytes : List ℕ) → is_blank b ≡ true → IsUtf8 (bytes ++ (b ∷ [])) → IsUtf8 bytes
utf8_prefix b bytes e u =
    let whole = bytes ++ (b ∷ []) in
    let within : length bytes < length whole = simp length-append (omega arith) in
    let ascii : get_or whole (length bytes) 0 < 128 = rw get_or-append_seam (blank_is_ascii b e) in
    let front : take (length bytes) whole ≡ bytes = take-append_seam bytes (b ∷ []) in
    let P : List ℕ → Type 0 = λ xs. IsUtf8 xs in subst P front (IsUtf8-take whole (length bytes) u (IsCharBoundary-before_ascii whole (length bytes) within ascii))

ltb_one_more : (m n : ℕ) → ltb m n ≡ ltb (1 + m) (suc n)
ltb_one_more m n = ltb_from_iff (λ e. omega (arith, ltb-true m n e), λ h. lt-ltb m n (omega arith))

both_true : (a b : Bool) → a ≡ true → b ≡ true → (a && b) ≡ true
both_true true true e f = refl
both_true true false e f = f
both_true false b e f = e

pub stands_in_by_position : (b : ℕ) (bytes : List ℕ) → stands_in b bytes ≡ ltb (position_or_len (λ x. x == b) bytes) (length bytes)
stands_in_by_position b [] = refl
stands_in_by_position b (x ∷ xs) = by_test (x == b) refl (stands_in_by_position b xs) where
  by_test : (t : Bool) → (x == b) ≡ t → stands_in b xs ≡ ltb (position_or_len (λ x. x == b) xs) (length xs) → stands_in b (x ∷ xs) ≡ ltb (position_or_len (λ x. x == b) (x ∷ xs)) (length (x ∷ xs))
  by_test true e more = rw e (sym (lt-ltb 0 (length (x ∷ xs)) (omega arith)))
  by_test false e more = rw e (more ∙ ltb_one_more _ _)

-- what stops passing a test is what fails it first
pub first_failing : (p : ℕ → Bool) (xs : List ℕ) → position_or_len (λ x. not (p x)) xs ≡ prefix_len p xs
first_failing p [] = refl
first_failing p (x ∷ xs) = by_test (p x) refl (first_failing p xs) where
  by_test : (t : Bool) → p x ≡ t → position_or_len (λ x. not (p x)) xs ≡ prefix_len p xs → position_or_len (λ x. not (p x)) (x ∷ xs) ≡ prefix_len p (x ∷ xs)
  by_test true e more = rw e (ap (λ n. 1 + n) more)
  by_test false e more = rw e

abbrev pub is_arrow : ℕ → Bool
is_arrow b = b == 62

pub statement_found : (text name said : List ℕ) (at : ℕ) → position is_arrow text ≡ Some at → name ≡ take at text → is_session_name name ≡ true → said ≡ trimmed (drop 1 (drop at text)) → statement_of text ≡ Some (name, said)
statement_found text name said at h n i s =
    let p = position_some is_arrow text at h in
    let stands : stands_in 62 text ≡ true = stands_in_by_position 62 text ∙ lt-ltb _ _ (omega (arith, p.0, p.1)) in
    let before : before_first is_arrow text ≡ name = ap (λ k. take k text) p.0 ∙ sym n in
    let behind : trimmed (after_first is_arrow text) ≡ said = ap (λ k. trimmed (drop (k + 1) text)) p.0 ∙ (ap trimmed (sym (drop-drop 1 at text)) ∙ sym s) in
    let t = both_true (stands_in 62 text) (is_session_name (before_first is_arrow text)) stands (ap is_session_name before ∙ i) in
    let said_so : statement_of text ≡ Some (before_first is_arrow text, trimmed (after_first is_arrow text)) = ap (λ b. cond b (Some (before_first is_arrow text, trimmed (after_first is_arrow text))) None) t in
    said_so ∙ cc (before, behind)

pub utf8_behind : (text : List ℕ) (at : ℕ) → position is_arrow text ≡ Some at → IsUtf8 text → IsUtf8 (drop 1 (drop at text))
utf8_behind text at h u =
    let p = position_some is_arrow text at h in
    let arrow : get_or text at 0 ≡ 62 = ap (λ k. get_or text k 0) (sym p.0) ∙ eqb-true _ _ (passes_at_first is_arrow text 0 (omega (arith, p.0, p.1))) in
    let P : List ℕ → Type 0 = λ xs. IsUtf8 xs in
    subst P (sym (drop-drop 1 at text)) (IsUtf8-drop text (at + 1) u (IsCharBoundary-after_ascii text at u p.1 (omega arith)))

pub utf8_before : (text : List ℕ) (at : ℕ) → position is_arrow text ≡ Some at → IsUtf8 text → IsUtf8 (take at text)
utf8_before text at h u =
    let p = position_some is_arrow text at h in
    let arrow : get_or text at 0 ≡ 62 = ap (λ k. get_or text k 0) (sym p.0) ∙ eqb-true _ _ (passes_at_first is_arrow text 0 (omega (arith, p.0, p.1))) in
    IsUtf8-take text at u (IsCharBoundary-before_ascii text at p.1 (omega arith))

pub is_text : (bytes : List ℕ) → IsUtf8 bytes → is_utf8 bytes ≡ true
is_text bytes u = is_utf8-from_IsUtf8 bytes u

pub is_no_text : (bytes : List ℕ) → ¬ (IsUtf8 bytes) → is_utf8 bytes ≡ false
is_no_text bytes h = by_test (is_utf8 bytes) refl where
  by_test : (t : Bool) → is_utf8 bytes ≡ t → is_utf8 bytes ≡ false
  by_test true e = absurd (h (IsUtf8-from_is_utf8 bytes e))
  by_test false e = e
