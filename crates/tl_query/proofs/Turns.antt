-- How the scan of a text goes on by one token.
use Rattle.std.proofs.Common.{◌≡◌, ℕ, ◌+◌, ◌-◌, ◌^◌, ◌<◌, ◌≤◌, zero, suc, Bool, true, false, ◌||◌, cond, ◌==◌, nat_lt, nat_le, List, [], ◌∷◌, ◌++◌, length, drop, take, Option, Some, None, Result, Ok, Err, IfOk, IfSome, refl, sym, ◌∙◌, ap, subst, append_assoc, arith, get_or}
use Rattle.std.specs.List.{prefix_len}
use Rattle.std.proofs.lemmas.List.Sums.{prefix_len-le-length}
use Rattle.tl_types.specs.Names.{is_digit, begins_word, continues_word}
use Rattle.tl_query.specs.declared.tokens.Placed.{Placed}
use Rattle.tl_query.specs.declared.scanning.Piece.{Piece}
use Rattle.tl_query.specs.declared.faults.TextFault.{TextFault}
use Rattle.tl_query.specs.declared.faults.TextFault.TheVariants.{OpenText}
use Rattle.tl_query.specs.Scanning.{is_blank, digits_value, word_piece, number_piece, negative_piece, one_more, closing_len, single_quotes, text_token, quoted_piece, less_piece, greater_piece, symbol_piece, piece_at, piece_of, Tokens, tokens_before, placed_token, with_piece, scan}

-- passing bytes of a token that was read
skip_on : (bytes : List ℕ) (skip at : ℕ) (joined : Bool) → skip ≤ length bytes → scan at joined skip bytes ≡ scan (at + skip) joined 0 (drop skip bytes)
unfolding scan
skip_on bytes zero at joined h = ap (λ n. scan n joined 0 bytes) (omega arith)
skip_on [] (suc skip) at joined h = absurd (omega arith)
skip_on (b ∷ bytes) (suc skip) at joined h = skip_on bytes skip (at + 1) joined (omega arith) ∙ ap (λ n. scan n joined 0 (drop skip bytes)) (omega arith)

pub blank_turn : (prefix : List Placed) (at b : ℕ) (joined : Bool) (bytes : List ℕ) → is_blank b ≡ true → tokens_before prefix (scan at joined 0 (b ∷ bytes)) ≡ tokens_before prefix (scan (at + 1) false 0 bytes)
unfolding scan
blank_turn prefix at b joined bytes e = ap (λ t. tokens_before prefix (cond t (scan (at + 1) false 0 bytes) (with_piece at joined (piece_at at b bytes) (λ joins len. scan (at + 1) joins (len - 1) bytes)))) e

step_of : (at b : ℕ) (joined : Bool) (bytes : List ℕ) (r : Result Piece TextFault) → is_blank b ≡ false → r ≡ piece_at at b bytes → scan at joined 0 (b ∷ bytes) ≡ with_piece at joined r (λ joins len. scan (at + 1) joins (len - 1) bytes)
unfolding scan
step_of at b joined bytes r e f = ap (λ t. cond t (scan (at + 1) false 0 bytes) (with_piece at joined (piece_at at b bytes) (λ joins len. scan (at + 1) joins (len - 1) bytes))) e ∙ ap (λ x. with_piece at joined x (λ joins len. scan (at + 1) joins (len - 1) bytes)) (sym f)

pub fault_turn : (prefix : List Placed) (at b : ℕ) (joined : Bool) (bytes : List ℕ) (fault : TextFault) → is_blank b ≡ false → Err fault ≡ piece_at at b bytes → tokens_before prefix (scan at joined 0 (b ∷ bytes)) ≡ record { tokens = prefix ++ []; fault = Some fault }
fault_turn prefix at b joined bytes fault e f = ap (tokens_before prefix) (step_of at b joined bytes (Err fault) e f)

before_twice : (prefix : List Placed) (p : Placed) (read : Tokens) → tokens_before prefix (tokens_before (p ∷ []) read) ≡ tokens_before (prefix ++ (p ∷ [])) read
before_twice prefix p read = ap (λ (ts : List Placed). record { tokens = ts; fault = read.fault }) (sym (append_assoc prefix (p ∷ []) read.tokens))

drop_behind : (b : ℕ) (bytes : List ℕ) (len : ℕ) → 1 ≤ len → drop (len - 1) bytes ≡ drop len (b ∷ bytes)
drop_behind b bytes zero h = absurd (omega arith)
drop_behind b bytes (suc len) h = ap (λ n. drop n bytes) (omega arith)

pub piece_turn : (prefix : List Placed) (at b : ℕ) (joined : Bool) (bytes : List ℕ) (p : Piece) → is_blank b ≡ false → Ok p ≡ piece_at at b bytes → 1 ≤ p.len → p.len ≤ length (b ∷ bytes) → tokens_before prefix (scan at joined 0 (b ∷ bytes)) ≡ tokens_before (prefix ++ (placed_token at joined p ∷ [])) (scan (at + p.len) p.joins 0 (drop p.len (b ∷ bytes)))
piece_turn prefix at b joined bytes p e f some within =
    let short : p.len - 1 ≤ length bytes = omega arith in
    let there : (at + 1) + (p.len - 1) ≡ at + p.len = omega arith in
    ap (tokens_before prefix) (step_of at b joined bytes (Ok p) e f)
    ∙ before_twice prefix (placed_token at joined p) (scan (at + 1) p.joins (p.len - 1) bytes)
    ∙ ap (tokens_before (prefix ++ (placed_token at joined p ∷ []))) (skip_on bytes (p.len - 1) (at + 1) p.joins short ∙ ap (λ n. scan n p.joins 0 (drop (p.len - 1) bytes)) there ∙ ap (scan (at + p.len) p.joins 0) (drop_behind b bytes p.len some))

-- a piece has a byte, and no more than there are
abbrev Within : ℕ → Result Piece TextFault → Type 0
Within n r = IfOk r (λ p. (1 ≤ p.len) × (p.len ≤ n))

within_if : (n : ℕ) (t : Bool) (x y : Result Piece TextFault) → (t ≡ true → Within n x) → Within n y → Within n (cond t x y)
within_if n true x y h k = h refl
within_if n false x y h k = k

pub begun : (b : ℕ) → begins_word b ≡ true → continues_word b ≡ true
begun b e = ap (λ t. t || is_digit b) e

word_within : (b : ℕ) (bytes : List ℕ) → begins_word b ≡ true → Within (length (b ∷ bytes)) (Ok (word_piece (b ∷ bytes)))
unfolding word_piece
word_within b bytes e =
    let n : prefix_len continues_word (b ∷ bytes) ≡ 1 + prefix_len continues_word bytes = ap (λ t. cond t (1 + prefix_len continues_word bytes) 0) (begun b e) in
    (omega (arith, n), prefix_len-le-length continues_word (b ∷ bytes))

number_within : (at b : ℕ) (bytes : List ℕ) → is_digit b ≡ true → Within (length (b ∷ bytes)) (number_piece at (b ∷ bytes))
unfolding number_piece
number_within at b bytes e =
    let n : prefix_len is_digit (b ∷ bytes) ≡ 1 + prefix_len is_digit bytes = ap (λ t. cond t (1 + prefix_len is_digit bytes) 0) e in
    within_if (length (b ∷ bytes)) (nat_lt (digits_value (take (prefix_len is_digit (b ∷ bytes)) (b ∷ bytes))) (2 ^ 63)) _ _ (λ _. (omega (arith, n), prefix_len-le-length is_digit (b ∷ bytes))) tt

negative_within : (at b : ℕ) (bytes : List ℕ) → Within (length (b ∷ bytes)) (negative_piece at bytes)
unfolding negative_piece
negative_within at b bytes =
    within_if (length (b ∷ bytes)) (prefix_len is_digit bytes == 0) _ _ (λ _. tt) (within_if (length (b ∷ bytes)) (nat_le (digits_value (take (prefix_len is_digit bytes) bytes)) (2 ^ 63)) _ _ (λ _. (omega arith, omega (arith, prefix_len-le-length is_digit bytes))) tt)

more_within : (n : ℕ) (o : Option ℕ) → IfSome o (λ m. m ≤ n) → IfSome (one_more o) (λ m. m ≤ suc n)
more_within n None h = tt
more_within n (Some m) h = omega arith

some_if : (n : ℕ) (t : Bool) (x y : Option ℕ) → IfSome x (λ m. m ≤ n) → IfSome y (λ m. m ≤ n) → IfSome (cond t x y) (λ m. m ≤ n)
some_if n true x y h k = h
some_if n false x y h k = k

pub closing_within : (text_constant : Bool) (bytes : List ℕ) → IfSome (closing_len text_constant bytes) (λ m. m ≤ length bytes)
unfolding closing_len
closing_within true [] = omega arith
closing_within false [] = tt
closing_within true (b ∷ bytes) = some_if (suc (length bytes)) (b == 39) (one_more (closing_len false bytes)) (Some 0) (more_within (length bytes) (closing_len false bytes) (closing_within false bytes)) (omega arith)
closing_within false (b ∷ bytes) = some_if (suc (length bytes)) (b == 39) (one_more (closing_len true bytes)) (one_more (closing_len false bytes)) (more_within (length bytes) (closing_len true bytes) (closing_within true bytes)) (more_within (length bytes) (closing_len false bytes) (closing_within false bytes))

quoted_within : (at b : ℕ) (bytes : List ℕ) → Within (length (b ∷ bytes)) (quoted_piece at bytes)
unfolding quoted_piece
quoted_within at b bytes = elim (closing_len false bytes) as (λ o. IfSome o (λ m. m ≤ length bytes) → Within (length (b ∷ bytes)) (elim o [ None ↦ Err (OpenText at) | Some n ↦ Ok (record { token = text_token (single_quotes false (take (n - 1) bytes)); len = n + 1; joins = true }) ])) [ None ↦ λ h. tt | Some n ↦ λ h. (omega arith, omega arith) ] (closing_within false bytes)

piece_if : (n : ℕ) (t : Bool) (x y : Piece) → (1 ≤ x.len) × (x.len ≤ n) → (1 ≤ y.len) × (y.len ≤ n) → (1 ≤ (cond t x y).len) × ((cond t x y).len ≤ n)
piece_if n true x y h k = h
piece_if n false x y h k = k

less_within : (b : ℕ) (bytes : List ℕ) → Within (length (b ∷ bytes)) (Ok (less_piece bytes))
less_within b [] = (omega arith, omega arith)
less_within b (d ∷ bytes) = piece_if (length (b ∷ d ∷ bytes)) (d == 62) _ _ (omega arith, omega arith) (piece_if (length (b ∷ d ∷ bytes)) (d == 61) _ _ (omega arith, omega arith) (omega arith, omega arith))

greater_within : (b : ℕ) (bytes : List ℕ) → Within (length (b ∷ bytes)) (Ok (greater_piece bytes))
greater_within b [] = (omega arith, omega arith)
greater_within b (d ∷ bytes) = piece_if (length (b ∷ d ∷ bytes)) (d == 61) _ _ (omega arith, omega arith) (omega arith, omega arith)

symbol_within : (at b : ℕ) (bytes : List ℕ) → Within (length (b ∷ bytes)) (symbol_piece at b bytes)
unfolding symbol_piece
symbol_within at b bytes =
    let n : ℕ = length (b ∷ bytes) in
    let one : (1 ≤ 1) × (1 ≤ n) = (omega arith, omega arith) in
    within_if n (b == 40) _ _ (λ _. one) (within_if n (b == 41) _ _ (λ _. one) (within_if n (b == 44) _ _ (λ _. one) (within_if n (b == 59) _ _ (λ _. one) (within_if n (b == 42) _ _ (λ _. one) (within_if n (b == 61) _ _ (λ _. one) (within_if n (b == 60) _ _ (λ _. less_within b bytes) (within_if n (b == 62) _ _ (λ _. greater_within b bytes) tt)))))))

pub piece_within : (at b : ℕ) (bytes : List ℕ) → IfOk (piece_at at b bytes) (λ p. (1 ≤ p.len) × (p.len ≤ length (b ∷ bytes)))
unfolding piece_at
piece_within at b bytes =
    let n : ℕ = length (b ∷ bytes) in
    within_if n (begins_word b) _ _ (word_within b bytes) (within_if n (is_digit b) _ _ (number_within at b bytes) (within_if n (b == 45) _ _ (λ _. negative_within at b bytes) (within_if n (b == 39) _ _ (λ _. quoted_within at b bytes) (symbol_within at b bytes))))

pub read_within : (at b : ℕ) (bytes : List ℕ) (p : Piece) → Ok p ≡ piece_at at b bytes → (1 ≤ p.len) × (p.len ≤ length (b ∷ bytes))
read_within at b bytes p e = subst (λ r. IfOk r (λ p. (1 ≤ p.len) × (p.len ≤ length (b ∷ bytes)))) (sym e) (piece_within at b bytes)

pub blank_step : (prefix : List Placed) (at : ℕ) (joined : Bool) (rest : List ℕ) → 0 < length rest → is_blank (get_or rest 0 0) ≡ true → tokens_before prefix (scan at joined 0 rest) ≡ tokens_before prefix (scan (at + 1) false 0 (drop 1 rest))
blank_step prefix at joined [] h e = absurd (omega arith)
blank_step prefix at joined (b ∷ bytes) h e = blank_turn prefix at b joined bytes e

pub fault_step : (prefix : List Placed) (at : ℕ) (joined : Bool) (rest : List ℕ) (fault : TextFault) → 0 < length rest → is_blank (get_or rest 0 0) ≡ false → Err fault ≡ piece_of at rest → tokens_before prefix (scan at joined 0 rest) ≡ record { tokens = prefix ++ []; fault = Some fault }
fault_step prefix at joined [] fault h e f = absurd (omega arith)
fault_step prefix at joined (b ∷ bytes) fault h e f = fault_turn prefix at b joined bytes fault e f

pub piece_step : (prefix : List Placed) (at : ℕ) (joined : Bool) (rest : List ℕ) (p : Piece) → 0 < length rest → is_blank (get_or rest 0 0) ≡ false → Ok p ≡ piece_of at rest → tokens_before prefix (scan at joined 0 rest) ≡ tokens_before (prefix ++ (placed_token at joined p ∷ [])) (scan (at + p.len) p.joins 0 (drop p.len rest))
piece_step prefix at joined [] p h e f = absurd (omega arith)
piece_step prefix at joined (b ∷ bytes) p h e f = let w = read_within at b bytes p f in piece_turn prefix at b joined bytes p e f w.0 w.1

pub step_within : (at : ℕ) (rest : List ℕ) (p : Piece) → 0 < length rest → Ok p ≡ piece_of at rest → (1 ≤ p.len) × (p.len ≤ length rest)
step_within at [] p h f = absurd (omega arith)
step_within at (b ∷ bytes) p h f = read_within at b bytes p f

pub scan_done : (prefix : List Placed) (at : ℕ) (joined : Bool) (rest : List ℕ) → length rest ≡ 0 → tokens_before prefix (scan at joined 0 rest) ≡ record { tokens = prefix ++ []; fault = None }
unfolding scan
scan_done prefix at joined [] h = refl
scan_done prefix at joined (b ∷ bytes) h = absurd (omega arith)
