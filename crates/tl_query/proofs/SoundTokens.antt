-- What is read is right: names are names, versions aren't negative, and numbers and texts fit.
use Rattle.std.proofs.Common.{◌≡◌, ℕ, ℤ, pos, neg_ℤ, ◌+◌, ◌-◌, ◌^◌, ◌<◌, ◌≤◌, ◌==◌, zero, suc, Bool, true, false, cond, ◌&&◌, nat_lt, nat_le, List, [], ◌∷◌, ◌++◌, length, take, Some, None, Result, Ok, Err, IfOk, refl, sym, subst, arith, lit<}
use Rattle.std.specs.Int.{IsNonNegative}
use Rattle.std.specs.List.{AllByRecursion, prefix_len}
use Rattle.std.proofs.lemmas.Bool.Decides.{nat_tests}
use Rattle.tl_types.specs.Names.{is_name, keyword_of, is_digit, begins_word, continues_word}
use Rattle.tl_types.specs.declared.cells.Cell.{Cell}
use Rattle.tl_types.specs.declared.keywords.Keyword.TheVariants as words
use Rattle.tl_query.specs.declared.terminals.Terminal.TheVariants as terminals
use Rattle.tl_query.specs.declared.tokens.Token.{Token}
use Rattle.tl_query.specs.declared.tokens.Token.TheVariants.{Fixed, Word, Number, Negative, Quoted, Stray}
use Rattle.tl_query.specs.declared.tokens.Placed.{Placed}
use Rattle.tl_query.specs.declared.scanning.Piece.{Piece}
use Rattle.tl_query.specs.declared.faults.TextFault.{TextFault}
use Rattle.tl_query.specs.declared.faults.TextFault.TheVariants.{OpenText}
use Rattle.tl_query.specs.declared.ast.Name.{Name}
use Rattle.tl_query.specs.declared.ast.Stamp.{Stamp}
use Rattle.tl_query.specs.declared.ast.Statement.{Statement}
use Rattle.tl_query.specs.Grammar.{Part, terminal, terminal_at, said, identifier, version, moment, number, bound, constant, IsPart, Fits, IsSpelling, name_by, version_by, moment_by, number_by, bound_by, constant_by, statement_parts, end_parts}
use Rattle.tl_query.specs.Parsed.{IsNamed, IsVersion, IsI64, IsCell, IsParsed}
use Rattle.tl_query.specs.Scanning.{Tokens, scan, with_piece, is_blank, digits_value, other_token, word_token, word_piece, piece_at, number_piece, negative_piece, single_quotes, text_token, quoted_piece, less_piece, greater_piece, symbol_piece, closing_len, placed_token}
use Rattle.tl_query.specs.Texts.{tokens_of, Spells, text_read, Answers}
use Rattle.tl_query.proofs.ReadParts.{IsReadPart, split, parsed_from}
use Rattle.tl_query.proofs.Takers.{some_one}
use Rattle.tl_query.proofs.Deciding.{read_spelled}

-- TOKENS

-- what a token carries is right
abbrev IsSound : Token → Type 0
IsSound (Fixed m) = Unit {0}
IsSound (Word w) = is_name w ≡ true
IsSound (Number v) = (n : ℕ) × (v ≡ pos n) × (n < 2 ^ 63)
IsSound (Negative v) = IsI64 v
IsSound (Quoted t) = length t ≤ 65535
IsSound Stray = Unit {0}

abbrev Fine : Result Piece TextFault → Type 0
Fine r = IfOk r (λ p. IsSound p.token)

fine_if : (t : Bool) (x y : Result Piece TextFault) → (t ≡ true → Fine x) → Fine y → Fine (cond t x y)
fine_if true x y h k = h refl
fine_if false x y h k = k

sound_if : (t : Bool) (x y : Token) → (t ≡ true → IsSound x) → IsSound y → IsSound (cond t x y)
sound_if true x y h k = h refl
sound_if false x y h k = k

other_sound : (word : List ℕ) → IsSound (other_token word)
unfolding other_token
other_sound word = sound_if (is_name word) (Word word) Stray (λ e. e) tt

word_sound : (word : List ℕ) → IsSound (word_token word)
unfolding word_token
word_sound word = elim (keyword_of word) as (λ o. IsSound (elim o [ Some k ↦ Fixed (terminals.Keyword k) | None ↦ other_token word ])) [ Some k ↦ tt | None ↦ other_sound word ]

few_bytes : (n : ℕ) → nat_le n 65535 ≡ true → n ≤ 65535
few_bytes n h = grind (arith, nat_tests)

text_sound : (text : List ℕ) → IsSound (text_token text)
unfolding text_token
text_sound text = sound_if (nat_le (length text) 65535) (Quoted text) Stray (λ e. few_bytes (length text) e) tt

quoted_fine : (at : ℕ) (bytes : List ℕ) → Fine (quoted_piece at bytes)
unfolding quoted_piece
quoted_fine at bytes = elim (closing_len false bytes) as (λ o. Fine (elim o [ None ↦ Err (OpenText at) | Some n ↦ Ok (record { token = text_token (single_quotes false (take (n - 1) bytes)); len = n + 1; joins = true }) ])) [ None ↦ tt | Some n ↦ text_sound (single_quotes false (take (n - 1) bytes)) ]

fixed_if : (t : Bool) (x y : Piece) → IsSound x.token → IsSound y.token → IsSound (cond t x y).token
fixed_if true x y h k = h
fixed_if false x y h k = k

less_sound : (bytes : List ℕ) → IsSound (less_piece bytes).token
less_sound [] = tt
less_sound (b ∷ bytes) = fixed_if (b == 62) _ _ tt (fixed_if (b == 61) _ _ tt tt)

greater_sound : (bytes : List ℕ) → IsSound (greater_piece bytes).token
greater_sound [] = tt
greater_sound (b ∷ bytes) = fixed_if (b == 61) _ _ tt tt

below : (n : ℕ) → nat_lt n (2 ^ 63) ≡ true → n < 2 ^ 63
below n e = grind (arith, nat_tests)

at_most : (n : ℕ) → nat_le n (2 ^ 63) ≡ true → n ≤ 2 ^ 63
at_most n e = grind (arith, nat_tests)

negative_fits : (n : ℕ) → n ≤ 2 ^ 63 → IsI64 (neg_ℤ (pos n))
negative_fits zero h = lit< tt
negative_fits (suc n) h = omega arith

piece_fine : (at b : ℕ) (bytes : List ℕ) → Fine (piece_at at b bytes)
unfolding piece_at word_piece number_piece negative_piece symbol_piece
piece_fine at b bytes =
    let n : ℕ = digits_value (take (prefix_len is_digit (b ∷ bytes)) (b ∷ bytes)) in
    let m : ℕ = digits_value (take (prefix_len is_digit bytes) bytes) in
    fine_if (begins_word b) _ _ (λ _. word_sound (take (prefix_len continues_word (b ∷ bytes)) (b ∷ bytes)))
    (fine_if (is_digit b) _ _ (λ _. fine_if (nat_lt n (2 ^ 63)) _ _ (λ e. (n, refl, below n e)) tt)
    (fine_if (b == 45) _ _ (λ _. fine_if (prefix_len is_digit bytes == 0) _ _ (λ _. tt) (fine_if (nat_le m (2 ^ 63)) _ _ (λ e. negative_fits m (at_most m e)) tt))
    (fine_if (b == 39) _ _ (λ _. quoted_fine at bytes)
    (fine_if (b == 40) _ _ (λ _. tt) (fine_if (b == 41) _ _ (λ _. tt) (fine_if (b == 44) _ _ (λ _. tt) (fine_if (b == 59) _ _ (λ _. tt) (fine_if (b == 42) _ _ (λ _. tt) (fine_if (b == 61) _ _ (λ _. tt) (fine_if (b == 60) _ _ (λ _. less_sound bytes) (fine_if (b == 62) _ _ (λ _. greater_sound bytes) tt)))))))))))

placed_sound : (at : ℕ) (joined : Bool) (p : Piece) → IsSound p.token → IsSound (placed_token at joined p).token
placed_sound at joined p k = sound_if (joined && p.joins) Stray p.token (λ _. tt) k

abbrev Sounds : Tokens → Type 0
Sounds x = AllByRecursion (λ p. IsSound p.token) x.tokens

sounds_if : (t : Bool) (x y : Tokens) → Sounds x → Sounds y → Sounds (cond t x y)
sounds_if true x y h k = h
sounds_if false x y h k = k

with_sound : (at : ℕ) (joined : Bool) (r : Result Piece TextFault) (others : Bool → ℕ → Tokens) → Fine r → ((j : Bool) (n : ℕ) → Sounds (others j n)) → Sounds (with_piece at joined r others)
with_sound at joined (Ok p) others h k = (placed_sound at joined p h, k p.joins p.len)
with_sound at joined (Err e) others h k = tt

scan_sound : (bytes : List ℕ) (skip at : ℕ) (joined : Bool) → Sounds (scan at joined skip bytes)
unfolding scan
scan_sound [] skip at joined = tt
scan_sound (b ∷ bytes) (suc skip) at joined = scan_sound bytes skip (at + 1) joined
scan_sound (b ∷ bytes) zero at joined = sounds_if (is_blank b) _ _ (scan_sound bytes 0 (at + 1) false) (with_sound at joined (piece_at at b bytes) (λ joins len. scan (at + 1) joins (len - 1) bytes) (piece_fine at b bytes) (λ j n. scan_sound bytes (n - 1) (at + 1) j))

tokens_sound : (text : List ℕ) → AllByRecursion (λ p. IsSound p.token) (tokens_of text).tokens
tokens_sound text = scan_sound text 0 0 false

-- PARTS

name_read : (at : ℕ) (t : Token) (n : Name) → name_by at t ≡ Some n → IsSound t → IsNamed n
name_read at (Word w) n e s = subst IsNamed (some_one e) s
name_read at _ n e s = absurd (cc)

-- a number that is no less than 0 fits
pos_fits : (v : ℤ) → (n : ℕ) × (v ≡ pos n) × (n < 2 ^ 63) → IsI64 v
pos_fits v h = subst IsI64 (sym h.1) h.2

pos_version : (v : ℤ) (n : ℕ) → v ≡ pos n → IsNonNegative v
pos_version v n e = subst IsNonNegative (sym e) tt

version_read : (at : ℕ) (t : Token) (s : Stamp) → version_by at t ≡ Some s → IsSound t → IsVersion s × IsI64 s.value
version_read at (Number v) s e h = subst (λ (s : Stamp). IsVersion s × IsI64 s.value) (some_one e) (pos_version v h.0 h.1, pos_fits v h)
version_read at _ s e h = absurd (cc)

moment_read : (t : Token) (v : ℤ) → moment_by t ≡ Some v → IsSound t → IsI64 v
moment_read (Number n) v e h = subst IsI64 (some_one e) (pos_fits n h)
moment_read (Negative n) v e h = subst IsI64 (some_one e) h
moment_read _ v e h = absurd (cc)

number_read : (at : ℕ) (t : Token) (s : Stamp) → number_by at t ≡ Some s → IsSound t → IsI64 s.value
number_read at (Number n) s e h = subst (λ (s : Stamp). IsI64 s.value) (some_one e) (pos_fits n h)
number_read at (Negative n) s e h = subst (λ (s : Stamp). IsI64 s.value) (some_one e) h
number_read at _ s e h = absurd (cc)

bound_read : (at : ℕ) (t : Token) (s : Stamp) → bound_by at t ≡ Some s → IsSound t → IsI64 s.value
bound_read at (Number n) s e h = subst (λ (s : Stamp). IsI64 s.value) (some_one e) (pos_fits n h)
bound_read at (Negative n) s e h = subst (λ (s : Stamp). IsI64 s.value) (some_one e) h
bound_read at (Fixed (terminals.Keyword words.Forever)) s e h = subst (λ (s : Stamp). IsI64 s.value) (some_one e) (lit< tt)
bound_read at _ s e h = absurd (cc)

constant_read : (t : Token) (c : Cell) → constant_by t ≡ Some c → IsSound t → IsCell c
constant_read (Number n) c e h = subst IsCell (some_one e) (pos_fits n h)
constant_read (Negative n) c e h = subst IsCell (some_one e) h
constant_read (Quoted t) c e h = subst IsCell (some_one e) h
constant_read _ c e h = absurd (cc)

part_read : (q : Part) (p : Placed) → IsPart q p → IsSound p.token → IsReadPart q
part_read (terminal m) p e h = tt
part_read (terminal_at m at) p e h = tt
part_read (said w) p e h = tt
part_read (identifier n) p e h = name_read p.at p.token n e h
part_read (version s) p e h = version_read p.at p.token s e h
part_read (moment v) p e h = moment_read p.token v e h
part_read (number s) p e h = number_read p.at p.token s e h
part_read (bound s) p e h = bound_read p.at p.token s e h
part_read (constant c at) p e h = constant_read p.token c e.0 h

parts_read : (parts : List Part) (ts : List Placed) → Fits parts ts → AllByRecursion (λ p. IsSound p.token) ts → AllByRecursion IsReadPart parts
parts_read [] [] e h = tt
parts_read [] (p ∷ ts) e h = absurd e
parts_read (q ∷ parts) [] e h = absurd e
parts_read (q ∷ parts) (p ∷ ts) e h = (part_read q p e.0 h.0, parts_read parts ts e.1 h.1)

-- STATEMENTS

parsed_by : (ts : List Placed) (s : Statement) → AllByRecursion (λ p. IsSound p.token) ts → IsSpelling ts s → IsParsed s
parsed_by ts s h k = parsed_from s k.0 (split (statement_parts s) (end_parts k.1.0) (parts_read (statement_parts s ++ end_parts k.1.0) ts k.1.1 h)).0

-- what a text spells can be printed and checked
pub text_parsed : (text : List ℕ) (s : Statement) → Spells text s → IsParsed s
text_parsed text s h = parsed_by (tokens_of text).tokens s (tokens_sound text) h.spelled

pub parsed_of : (text : List ℕ) (r : Result Statement TextFault) → Answers r (text_read text) → IfOk r (λ s. IsParsed s)
parsed_of text (Ok s) h = text_parsed text s (read_spelled text s h)
parsed_of text (Err e) h = tt
