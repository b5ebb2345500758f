-- The tokens of a text. A token is as long as it can be; spaces and tabs stand between tokens.
use Rattle.std.specs.Prelude.{ℕ, ◌+◌, ◌-◌, ◌*◌, ◌^◌, Bool, true, false, ◌&&◌, ◌||◌, nat_lt, nat_le, ◌==◌, zero, suc, if◌then◌else◌, pos, neg_ℤ, List, [], ◌∷◌, ◌++◌, length, take, Option, Some, None, Result, Ok, Err}
use Rattle.std.specs.List.{prefix_len, fold}
use Rattle.tl_types.specs.Names.{is_digit, begins_word, continues_word, is_name, keyword_of}
use Rattle.tl_query.specs.declared.terminals.Terminal.{Terminal}
use Rattle.tl_query.specs.declared.terminals.Terminal.TheVariants as terminals
use Rattle.tl_query.specs.declared.tokens.Token.{Token}
use Rattle.tl_query.specs.declared.tokens.Token.TheVariants.{Fixed, Word, Number, Negative, Quoted, Stray}
use Rattle.tl_query.specs.declared.tokens.Placed.{Placed}
use Rattle.tl_query.specs.declared.scanning.Piece.{Piece}
use Rattle.tl_query.specs.declared.scanning.Scanned.{Scanned}
use Rattle.tl_query.specs.declared.faults.TextFault.{TextFault}
use Rattle.tl_query.specs.declared.faults.TextFault.TheVariants.{BadByte, OpenText, NumberTooLarge}

-- a space or a tab
abbrev pub is_blank : ℕ → Bool
is_blank b = (b == 32) || (b == 9)

-- the number that digits spell
abbrev pub digits_value : List ℕ → ℕ
digits_value digits = fold (λ n d. 10 * n + (d - 48)) 0 digits

-- the token that a word is, where it is no keyword: a name, if it isn't too long
unfoldable pub other_token : List ℕ → Token
other_token word = if is_name word then Word word else Stray

-- the token that a word is
unfoldable pub word_token : List ℕ → Token
word_token word =
    elim (keyword_of word) [ Some k ↦ Fixed (terminals.Keyword k) | None ↦ other_token word ]

-- the word that comes first
unfoldable pub word_piece : List ℕ → Piece
word_piece bytes =
    let len : ℕ = prefix_len continues_word bytes in
    record { token = word_token (take len bytes); len = len; joins = true }

-- the number that comes first, without a sign
unfoldable pub number_piece : ℕ → List ℕ → Result Piece TextFault
number_piece at bytes =
    let len : ℕ = prefix_len is_digit bytes in
    let n : ℕ = digits_value (take len bytes) in
    if nat_lt n (2 ^ 63)
    then Ok (record { token = Number (pos n); len = len; joins = true })
    else Err (NumberTooLarge at)

-- the number whose `-` stands before these bytes
unfoldable pub negative_piece : ℕ → List ℕ → Result Piece TextFault
negative_piece at bytes =
    let len : ℕ = prefix_len is_digit bytes in
    let n : ℕ = digits_value (take len bytes) in
    if len == 0 then Err (BadByte at) else
    if nat_le n (2 ^ 63)
    then Ok (record { token = Negative (neg_ℤ (pos n)); len = len + 1; joins = true })
    else Err (NumberTooLarge at)

-- one more, where there is a number
abbrev pub one_more : Option ℕ → Option ℕ
one_more None = None
one_more (Some n) = Some (n + 1)

-- How many bytes of a text constant follow its opening quote, with the quote that closes it; none
-- where it isn't closed. After a quote (the first argument) another one makes a quote of the text.
unfoldable pub closing_len : Bool → List ℕ → Option ℕ
closing_len true [] = Some 0
closing_len false [] = None
closing_len true (b ∷ bytes) = if b == 39 then one_more (closing_len false bytes) else Some 0
closing_len false (b ∷ bytes) =
    if b == 39 then one_more (closing_len true bytes) else one_more (closing_len false bytes)

-- The bytes of a text constant between its quotes, with one quote for two. After a quote that was
-- kept (the first argument) another one is passed over.
unfoldable pub single_quotes : Bool → List ℕ → List ℕ
single_quotes kept [] = []
single_quotes true (b ∷ bytes) =
    if b == 39 then single_quotes false bytes else b ∷ single_quotes false bytes
single_quotes false (b ∷ bytes) = b ∷ single_quotes (b == 39) bytes

-- the token that a text constant is: a text of at most 65,535 bytes
unfoldable pub text_token : List ℕ → Token
text_token text = if nat_le (length text) 65535 then Quoted text else Stray

-- the text constant whose quote stands before these bytes
unfoldable pub quoted_piece : ℕ → List ℕ → Result Piece TextFault
quoted_piece at bytes =
    elim (closing_len false bytes) [
      | None ↦ Err (OpenText at)
      | Some n ↦
          let token : Token = text_token (single_quotes false (take (n - 1) bytes)) in
          Ok (record { token = token; len = n + 1; joins = true })
    ]

-- a symbol of so many bytes
abbrev pub symbol : Terminal → ℕ → Piece
symbol terminal len = record { token = Fixed terminal; len = len; joins = false }

-- the symbol that begins with `<`
abbrev pub less_piece : List ℕ → Piece
less_piece [] = symbol terminals.Less 1
less_piece (b ∷ bytes) =
    if b == 62 then symbol terminals.Unequal 2 else
    if b == 61 then symbol terminals.AtMost 2 else
    symbol terminals.Less 1

-- the symbol that begins with `>`
abbrev pub greater_piece : List ℕ → Piece
greater_piece [] = symbol terminals.Greater 1
greater_piece (b ∷ bytes) =
    if b == 61 then symbol terminals.AtLeast 2 else symbol terminals.Greater 1

-- the symbol with this first byte
unfoldable pub symbol_piece : ℕ → ℕ → List ℕ → Result Piece TextFault
symbol_piece at b bytes =
    if b == 40 then Ok (symbol terminals.Open 1) else
    if b == 41 then Ok (symbol terminals.Close 1) else
    if b == 44 then Ok (symbol terminals.Comma 1) else
    if b == 59 then Ok (symbol terminals.Semicolon 1) else
    if b == 42 then Ok (symbol terminals.Star 1) else
    if b == 61 then Ok (symbol terminals.Equal 1) else
    if b == 60 then Ok (less_piece bytes) else
    if b == 62 then Ok (greater_piece bytes) else
    Err (BadByte at)

-- the token that comes first
unfoldable pub piece_at : ℕ → ℕ → List ℕ → Result Piece TextFault
piece_at at b bytes =
    if begins_word b then Ok (word_piece (b ∷ bytes)) else
    if is_digit b then number_piece at (b ∷ bytes) else
    if b == 45 then negative_piece at bytes else
    if b == 39 then quoted_piece at bytes else
    symbol_piece at b bytes

-- the token that bytes begin with; where there is none, no token begins there
abbrev pub piece_of : ℕ → List ℕ → Result Piece TextFault
piece_of at [] = Err (BadByte at)
piece_of at (b ∷ bytes) = piece_at at b bytes

-- the tokens of a text up to its first fault, and that fault
pub record Tokens : Type 0 where
  pub tokens : List Placed
  pub fault : Option TextFault

-- tokens before others
abbrev pub tokens_before : List Placed → Tokens → Tokens
tokens_before prefix read = record { tokens = prefix ++ read.tokens; fault = read.fault }

-- what was read, without where it lies in memory
abbrev pub tokens_seen : Scanned → Tokens
tokens_seen read = record { tokens = read.tokens.items; fault = read.fault }

-- A token where it stands. A word, number or text that directly follows one can stand nowhere.
abbrev pub placed_token : ℕ → Bool → Piece → Placed
placed_token at joined piece =
    record { token = if joined && piece.joins then Stray else piece.token; at = at }

-- the first token, and what follows it
abbrev pub with_piece : ℕ → Bool → Result Piece TextFault → (Bool → ℕ → Tokens) → Tokens
with_piece at joined (Err fault) others = record { tokens = []; fault = Some fault }
with_piece at joined (Ok piece) others =
    tokens_before (placed_token at joined piece ∷ []) (others piece.joins piece.len)

-- the tokens of the bytes from this offset on, the first so many of which belong to the token
-- before
unfoldable pub scan : ℕ → Bool → ℕ → List ℕ → Tokens
scan at joined skip [] = record { tokens = []; fault = None }
scan at joined (suc skip) (b ∷ bytes) = scan (at + 1) joined skip bytes
scan at joined zero (b ∷ bytes) =
    if is_blank b
    then scan (at + 1) false 0 bytes
    else
    with_piece at joined (piece_at at b bytes)
    (λ joins len. scan (at + 1) joins (len - 1) bytes)
