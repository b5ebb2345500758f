-- A text stays UTF-8 where tokens are taken off its prefix, and inside the quotes of a text constant.
use Rattle.std.proofs.Common.{◌≡◌, ℕ, ◌+◌, ◌-◌, ◌^◌, ◌<◌, ◌≤◌, ◌==◌, zero, suc, nat_lt, nat_le, Bool, true, false, cond, ◌&&◌, List, [], ◌∷◌, ◌++◌, length, drop, take, get_or, Option, Some, None, Result, Ok, Err, IfOk, IfSome, refl, sym, ◌∙◌, ap, subst, append-nil, arith, lit<}
use lib.Utf8.{scalar, scalars, encode, encodes}
use Rattle.std.specs.Str.{IsUtf8}
use Rattle.std.specs.List.{prefix_len}
use Rattle.std.proofs.lemmas.Str.{IsUtf8-take, IsUtf8-drop, IsUtf8-between, IsCharBoundary-end, IsCharBoundary-after_ascii, IsCharBoundary-before_ascii, inside_one, length-encode, len_utf8_bounds}
use Rattle.std.proofs.lemmas.List.Sums.{prefix_len_passes}
use Rattle.std.proofs.lemmas.Bool.Decides.{nat_tests}
use Rattle.tl_types.specs.Names.{is_digit, begins_word, continues_word}
use Rattle.tl_query.specs.declared.scanning.Piece.{Piece}
use Rattle.tl_query.specs.declared.faults.TextFault.{TextFault}
use Rattle.tl_query.specs.declared.faults.TextFault.TheVariants.{OpenText}
use Rattle.tl_query.specs.Scanning.{digits_value, word_piece, number_piece, negative_piece, one_more, closing_len, single_quotes, text_token, quoted_piece, less_piece, greater_piece, symbol_piece, piece_at, piece_of}
use Rattle.tl_query.proofs.Closing.{word_byte, not_39}
use Rattle.tl_query.proofs.Turns.{begun, step_within, closing_within}
use Rattle.tl_query.proofs.Words.{cond_true, cond_false}

-- INSIDE THE QUOTES

abbrev NoQuote : List ℕ → Type 0
NoQuote es = (k : ℕ) → k < length es → get_or es k 0 ≡ 39 → ⊥

single_pass : (es rest : List ℕ) → NoQuote es → single_quotes false (es ++ rest) ≡ es ++ single_quotes false rest
unfolding single_quotes
single_pass [] rest h = refl
single_pass (e ∷ es) rest h = ap (λ u. e ∷ single_quotes u (es ++ rest)) (not_39 e (h 0 (omega arith))) ∙ ap (λ y. e ∷ y) (single_pass es rest (λ k l. h (suc k) (omega arith)))

single_kept : (es rest : List ℕ) → 1 ≤ length es → NoQuote es → single_quotes true (es ++ rest) ≡ es ++ single_quotes false rest
unfolding single_quotes
single_kept [] rest some h = absurd (omega arith)
single_kept (e ∷ es) rest some h = cond_false (e == 39) _ _ (not_39 e (h 0 (omega arith))) ∙ ap (λ y. e ∷ y) (single_pass es rest (λ k l. h (suc k) (omega arith)))

-- no byte of another character is a quote
quote_free : (c : ℕ) → (c ≡ 39 → ⊥) → NoQuote (encode c)
quote_free c h = λ k l e. h (inside_one c [] (encode c) k (sym (append-nil (encode c))) l (subst (λ n. n < 128) (sym e) (lit< tt)) ∙ e)

some_bytes : (c : ℕ) → 1 ≤ length (encode c)
some_bytes c = let e = length-encode c in let b = len_utf8_bounds c in omega (arith, e, b.0)

is_39 : (c : ℕ) → (c == 39) ≡ true → c ≡ 39
is_39 c e = grind (arith, nat_tests)

no_39 : (c : ℕ) → (c == 39) ≡ false → c ≡ 39 → ⊥
no_39 c e h = grind (arith, nat_tests)

quote_by : (cs : List ℕ) (kept : Bool) → ((kept : Bool) → single_quotes kept (encodes cs) ≡ encodes (single_quotes kept cs)) → single_quotes kept (encode 39 ++ encodes cs) ≡ encodes (single_quotes kept (39 ∷ cs))
unfolding single_quotes encode
quote_by cs true h = h false
quote_by cs false h = ap (λ y. 39 ∷ y) (h true)

single_quote : (cs : List ℕ) (c : ℕ) (kept : Bool) → c ≡ 39 → ((kept : Bool) → single_quotes kept (encodes cs) ≡ encodes (single_quotes kept cs)) → single_quotes kept (encode c ++ encodes cs) ≡ encodes (single_quotes kept (c ∷ cs))
single_quote cs c kept e h = subst (λ c. single_quotes kept (encode c ++ encodes cs) ≡ encodes (single_quotes kept (c ∷ cs))) (sym e) (quote_by cs kept h)

single_other : (cs : List ℕ) (c : ℕ) (kept : Bool) → (c == 39) ≡ false → ((kept : Bool) → single_quotes kept (encodes cs) ≡ encodes (single_quotes kept cs)) → single_quotes kept (encode c ++ encodes cs) ≡ encodes (single_quotes kept (c ∷ cs))
unfolding single_quotes
single_other cs c true e h =
    single_kept (encode c) (encodes cs) (some_bytes c) (quote_free c (no_39 c e)) ∙ ap (λ y. encode c ++ y) (h false) ∙ sym (ap encodes (cond_false (c == 39) (single_quotes false cs) (c ∷ single_quotes false cs) e))
single_other cs c false e h =
    single_pass (encode c) (encodes cs) (quote_free c (no_39 c e)) ∙ ap (λ y. encode c ++ y) (h false) ∙ sym (ap (λ u. encode c ++ encodes (single_quotes u cs)) e)

single_encodes : (cs : List ℕ) (kept : Bool) → single_quotes kept (encodes cs) ≡ encodes (single_quotes kept cs)
unfolding single_quotes
single_encodes [] kept = refl
single_encodes (c ∷ cs) kept = elim (c == 39) as (λ u. (c == 39) ≡ u → single_quotes kept (encode c ++ encodes cs) ≡ encodes (single_quotes kept (c ∷ cs))) [ true ↦ λ e. single_quote cs c kept (is_39 c e) (single_encodes cs) | false ↦ λ e. single_other cs c kept e (single_encodes cs) ] refl

both_true : (a b : Bool) → (a && b) ≡ true → (a ≡ true) × (b ≡ true)
both_true true b e = (refl, e)
both_true false b e = absurd (cc)

scalars_if : (t : Bool) (xs ys : List ℕ) → scalars xs ≡ true → scalars ys ≡ true → scalars (cond t xs ys) ≡ true
scalars_if true xs ys h k = h
scalars_if false xs ys h k = k

scalars_single : (cs : List ℕ) (kept : Bool) → scalars cs ≡ true → scalars (single_quotes kept cs) ≡ true
unfolding single_quotes
scalars_single [] kept h = refl
scalars_single (c ∷ cs) true h = let k = both_true (scalar c) (scalars cs) h in scalars_if (c == 39) (single_quotes false cs) (c ∷ single_quotes false cs) (scalars_single cs false k.1) (ap (λ t. t && scalars (single_quotes false cs)) k.0 ∙ scalars_single cs false k.1)
scalars_single (c ∷ cs) false h = let k = both_true (scalar c) (scalars cs) h in ap (λ t. t && scalars (single_quotes (c == 39) cs)) k.0 ∙ scalars_single cs (c == 39) k.1

single_utf8 : (bytes : List ℕ) → IsUtf8 bytes → IsUtf8 (single_quotes false bytes)
single_utf8 bytes h = (single_quotes false h.0, (scalars_single h.0 false h.1.0, sym (single_encodes h.0 false) ∙ ap (single_quotes false) h.1.1))

-- a quote closes
abbrev Closes : Bool → List ℕ → Option ℕ → Type 0
Closes true bytes o = IfSome o (λ n. 1 ≤ n → get_or bytes (n - 1) 0 ≡ 39)
Closes false bytes o = IfSome o (λ n. (1 ≤ n) × (get_or bytes (n - 1) 0 ≡ 39))

closes_if : (bytes : List ℕ) (q t : Bool) (x y : Option ℕ) → (t ≡ true → Closes q bytes x) → (t ≡ false → Closes q bytes y) → Closes q bytes (cond t x y)
closes_if bytes q true x y h k = h refl
closes_if bytes q false x y h k = k refl

at_front : (b : ℕ) (bytes : List ℕ) (m : ℕ) → b ≡ 39 → (1 ≤ m → get_or bytes (m - 1) 0 ≡ 39) → get_or (b ∷ bytes) (m + 1 - 1) 0 ≡ 39
at_front b bytes zero e h = e
at_front b bytes (suc m) e h = let n : suc m + 1 - 1 ≡ suc m = omega arith in let l : suc m - 1 ≡ m = omega arith in ap (λ n. get_or (b ∷ bytes) n 0) n ∙ sym (ap (λ n. get_or bytes n 0) l) ∙ h (omega arith)

behind_front : (b : ℕ) (bytes : List ℕ) (m : ℕ) → 1 ≤ m → get_or bytes (m - 1) 0 ≡ 39 → get_or (b ∷ bytes) (m + 1 - 1) 0 ≡ 39
behind_front b bytes zero some h = absurd (omega arith)
behind_front b bytes (suc m) some h = let n : suc m + 1 - 1 ≡ suc m = omega arith in let l : suc m - 1 ≡ m = omega arith in ap (λ n. get_or (b ∷ bytes) n 0) n ∙ sym (ap (λ n. get_or bytes n 0) l) ∙ h

more_open : (b : ℕ) (bytes : List ℕ) (o : Option ℕ) → Closes false bytes o → Closes false (b ∷ bytes) (one_more o)
more_open b bytes None h = tt
more_open b bytes (Some m) h = (omega arith, behind_front b bytes m h.0 h.1)

more_quoted : (b : ℕ) (bytes : List ℕ) (o : Option ℕ) → Closes false bytes o → Closes true (b ∷ bytes) (one_more o)
more_quoted b bytes None h = tt
more_quoted b bytes (Some m) h = λ l. behind_front b bytes m h.0 h.1

more_quote : (b : ℕ) (bytes : List ℕ) (o : Option ℕ) → b ≡ 39 → Closes true bytes o → Closes false (b ∷ bytes) (one_more o)
more_quote b bytes None e h = tt
more_quote b bytes (Some m) e h = (omega arith, at_front b bytes m e h)

closes : (q : Bool) (bytes : List ℕ) → Closes q bytes (closing_len q bytes)
unfolding closing_len
closes true [] = λ l. absurd (omega arith)
closes false [] = tt
closes true (b ∷ bytes) = closes_if (b ∷ bytes) true (b == 39) (one_more (closing_len false bytes)) (Some 0) (λ e. more_quoted b bytes (closing_len false bytes) (closes false bytes)) (λ e. λ l. absurd (omega arith))
closes false (b ∷ bytes) = closes_if (b ∷ bytes) false (b == 39) (one_more (closing_len true bytes)) (one_more (closing_len false bytes)) (λ e. more_quote b bytes (closing_len true bytes) (is_39 b e) (closes true bytes)) (λ e. more_open b bytes (closing_len false bytes) (closes false bytes))

inside_by : (bytes : List ℕ) (o : Option ℕ) (n : ℕ) → o ≡ Some n → IsUtf8 bytes → Closes false bytes o → IfSome o (λ m. m ≤ length bytes) → IsUtf8 (single_quotes false (take (n - 1) bytes))
inside_by bytes None n e u h l = absurd (cc)
inside_by bytes (Some m) n e u h l =
    let same : m ≡ n = cc in
    let low : get_or bytes (m - 1) 0 < 128 = subst (λ n. n < 128) (sym h.1) (lit< tt) in
    subst (λ n. IsUtf8 (single_quotes false (take (n - 1) bytes))) same (single_utf8 (take (m - 1) bytes) (IsUtf8-take bytes (m - 1) u (IsCharBoundary-before_ascii bytes (m - 1) (omega (arith, h.0, l)) low)))

-- what stands inside the quotes of a text is a text
pub inside_utf8 : (bytes : List ℕ) (n : ℕ) → closing_len false bytes ≡ Some n → IsUtf8 bytes → IsUtf8 (single_quotes false (take (n - 1) bytes))
inside_utf8 bytes n e u = inside_by bytes (closing_len false bytes) n e u (closes false bytes) (closing_within false bytes)

-- BEHIND A TOKEN

-- the last byte is ASCII
abbrev EndsLow : List ℕ → Result Piece TextFault → Type 0
EndsLow bytes r = IfOk r (λ p. get_or bytes (p.len - 1) 0 < 128)

low_if : (bytes : List ℕ) (t : Bool) (x y : Result Piece TextFault) → (t ≡ true → EndsLow bytes x) → EndsLow bytes y → EndsLow bytes (cond t x y)
low_if bytes true x y h k = h refl
low_if bytes false x y h k = k

digit_byte : (b : ℕ) → is_digit b ≡ true → b < 128
digit_byte b h = grind (arith, nat_tests)

word_low : (b : ℕ) (bytes : List ℕ) → begins_word b ≡ true → EndsLow (b ∷ bytes) (Ok (word_piece (b ∷ bytes)))
unfolding word_piece
word_low b bytes e =
    let n : prefix_len continues_word (b ∷ bytes) ≡ 1 + prefix_len continues_word bytes = cond_true (continues_word b) _ _ (begun b e) in
    word_byte _ (prefix_len_passes continues_word (b ∷ bytes) (prefix_len continues_word (b ∷ bytes) - 1) 0 (omega (arith, n)))

digits_low : (bytes : List ℕ) → 1 ≤ prefix_len is_digit bytes → get_or bytes (prefix_len is_digit bytes - 1) 0 < 128
digits_low bytes h = digit_byte _ (prefix_len_passes is_digit bytes (prefix_len is_digit bytes - 1) 0 (omega arith))

number_low : (at b : ℕ) (bytes : List ℕ) → is_digit b ≡ true → EndsLow (b ∷ bytes) (number_piece at (b ∷ bytes))
unfolding number_piece
number_low at b bytes e =
    let n : prefix_len is_digit (b ∷ bytes) ≡ 1 + prefix_len is_digit bytes = cond_true (is_digit b) _ _ e in
    low_if (b ∷ bytes) (nat_lt (digits_value (take (prefix_len is_digit (b ∷ bytes)) (b ∷ bytes))) (2 ^ 63)) _ _ (λ _. digits_low (b ∷ bytes) (omega (arith, n))) tt

none_of : (n : ℕ) → (n == 0) ≡ false → 1 ≤ n
none_of n h = grind (arith, nat_tests)

one_further : (b : ℕ) (bytes : List ℕ) (n : ℕ) → 1 ≤ n → get_or bytes (n - 1) 0 < 128 → get_or (b ∷ bytes) (n + 1 - 1) 0 < 128
one_further b bytes zero h l = absurd (omega arith)
one_further b bytes (suc n) h l = let e : suc n + 1 - 1 ≡ suc n = omega arith in let f : suc n - 1 ≡ n = omega arith in subst (λ k. get_or (b ∷ bytes) k 0 < 128) (sym e) (subst (λ k. get_or bytes k 0 < 128) f l)

low_either : (bytes : List ℕ) (t : Bool) (x y : Result Piece TextFault) → (t ≡ true → EndsLow bytes x) → (t ≡ false → EndsLow bytes y) → EndsLow bytes (cond t x y)
low_either bytes true x y h k = h refl
low_either bytes false x y h k = k refl

negative_low : (at b : ℕ) (bytes : List ℕ) → EndsLow (b ∷ bytes) (negative_piece at bytes)
unfolding negative_piece
negative_low at b bytes =
    low_either (b ∷ bytes) (prefix_len is_digit bytes == 0) _ _ (λ e. tt)
    (λ e. low_if (b ∷ bytes) (nat_le (digits_value (take (prefix_len is_digit bytes) bytes)) (2 ^ 63)) _ _ (λ _. one_further b bytes (prefix_len is_digit bytes) (none_of (prefix_len is_digit bytes) e) (digits_low bytes (none_of (prefix_len is_digit bytes) e))) tt)

quoted_by : (at b : ℕ) (bytes : List ℕ) (o : Option ℕ) → Closes false bytes o → EndsLow (b ∷ bytes) (elim o [ None ↦ Err (OpenText at) | Some n ↦ Ok (record { token = text_token (single_quotes false (take (n - 1) bytes)); len = n + 1; joins = true }) ])
quoted_by at b bytes None h = tt
quoted_by at b bytes (Some n) h = one_further b bytes n h.0 (subst (λ n. n < 128) (sym h.1) (lit< tt))

quoted_low : (at b : ℕ) (bytes : List ℕ) → EndsLow (b ∷ bytes) (quoted_piece at bytes)
unfolding quoted_piece
quoted_low at b bytes = quoted_by at b bytes (closing_len false bytes) (closes false bytes)

piece_if : (bytes : List ℕ) (t : Bool) (x y : Piece) → (t ≡ true → get_or bytes (x.len - 1) 0 < 128) → get_or bytes (y.len - 1) 0 < 128 → get_or bytes ((cond t x y).len - 1) 0 < 128
piece_if bytes true x y h k = h refl
piece_if bytes false x y h k = k

is_low : (n : ℕ) (b : ℕ) → n < 128 → (b == n) ≡ true → b < 128
is_low n b h e = grind (arith, nat_tests)

less_low : (b : ℕ) (bytes : List ℕ) → b < 128 → EndsLow (b ∷ bytes) (Ok (less_piece bytes))
less_low b [] h = h
less_low b (d ∷ bytes) h = piece_if (b ∷ d ∷ bytes) (d == 62) _ _ (λ e. is_low 62 d (lit< tt) e) (piece_if (b ∷ d ∷ bytes) (d == 61) _ _ (λ e. is_low 61 d (lit< tt) e) h)

greater_low : (b : ℕ) (bytes : List ℕ) → b < 128 → EndsLow (b ∷ bytes) (Ok (greater_piece bytes))
greater_low b [] h = h
greater_low b (d ∷ bytes) h = piece_if (b ∷ d ∷ bytes) (d == 61) _ _ (λ e. is_low 61 d (lit< tt) e) h

symbol_low : (at b : ℕ) (bytes : List ℕ) → EndsLow (b ∷ bytes) (symbol_piece at b bytes)
unfolding symbol_piece
symbol_low at b bytes =
    let one : (n : ℕ) → n < 128 → (b == n) ≡ true → b < 128 = λ n h e. is_low n b h e in
    low_if (b ∷ bytes) (b == 40) _ _ (one 40 (lit< tt)) (low_if (b ∷ bytes) (b == 41) _ _ (one 41 (lit< tt)) (low_if (b ∷ bytes) (b == 44) _ _ (one 44 (lit< tt)) (low_if (b ∷ bytes) (b == 59) _ _ (one 59 (lit< tt)) (low_if (b ∷ bytes) (b == 42) _ _ (one 42 (lit< tt)) (low_if (b ∷ bytes) (b == 61) _ _ (one 61 (lit< tt))
    (low_if (b ∷ bytes) (b == 60) _ _ (λ e. less_low b bytes (one 60 (lit< tt) e)) (low_if (b ∷ bytes) (b == 62) _ _ (λ e. greater_low b bytes (one 62 (lit< tt) e)) tt)))))))

piece_low : (at b : ℕ) (bytes : List ℕ) → EndsLow (b ∷ bytes) (piece_at at b bytes)
unfolding piece_at
piece_low at b bytes =
    low_if (b ∷ bytes) (begins_word b) _ _ (word_low b bytes) (low_if (b ∷ bytes) (is_digit b) _ _ (number_low at b bytes) (low_if (b ∷ bytes) (b == 45) _ _ (λ _. negative_low at b bytes) (low_if (b ∷ bytes) (b == 39) _ _ (λ _. quoted_low at b bytes) (symbol_low at b bytes))))

drop_utf8 : (bytes : List ℕ) (n : ℕ) → 1 ≤ n → n ≤ length bytes → get_or bytes (n - 1) 0 < 128 → IsUtf8 bytes → IsUtf8 (drop n bytes)
drop_utf8 bytes n some within low u =
    let e : n - 1 + 1 ≡ n = omega arith in
    subst (λ n. IsUtf8 (drop n bytes)) e (IsUtf8-drop bytes (n - 1 + 1) u (IsCharBoundary-after_ascii bytes (n - 1) u (omega arith) low))

-- what follows a token is a text
pub behind_piece : (at : ℕ) (rest : List ℕ) (p : Piece) → 0 < length rest → Ok p ≡ piece_of at rest → IsUtf8 rest → IsUtf8 (drop p.len rest)
behind_piece at [] p h e u = absurd (omega arith)
behind_piece at (b ∷ bytes) p h e u =
    let w = step_within at (b ∷ bytes) p h e in
    drop_utf8 (b ∷ bytes) p.len w.0 w.1 (subst (λ r. EndsLow (b ∷ bytes) r) (sym e) (piece_low at b bytes)) u

-- what follows a byte of ASCII is a text
pub behind_byte : (rest : List ℕ) → 0 < length rest → get_or rest 0 0 < 128 → IsUtf8 rest → IsUtf8 (drop 1 rest)
behind_byte rest h l u = drop_utf8 rest 1 (omega arith) (omega arith) l u

-- what follows a quote is a text
pub behind_quote : (bytes : List ℕ) → 1 ≤ length bytes → get_or bytes 0 0 ≡ 39 → IsUtf8 bytes → IsUtf8 (take (length bytes - 1) (drop 1 bytes))
behind_quote bytes some e u = IsUtf8-between bytes 1 (length bytes) u some (IsCharBoundary-after_ascii bytes 0 u (omega arith) (subst (λ n. n < 128) (sym e) (lit< tt))) (IsCharBoundary-end bytes)
