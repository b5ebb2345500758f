-- What a text spells, and the fault of a text that spells nothing.
use Rattle.std.specs.Prelude.{◌≡◌, ℕ, ◌<◌, ◌≤◌, nat_lt, false, if◌then◌else◌, ◌⊎◌, List, [], ◌∷◌, ◌++◌, length, Option, Some, None, Result, Ok, Err}
use Rattle.tl_query.specs.declared.tokens.Placed.{Placed}
use Rattle.tl_query.specs.declared.ast.Statement.{Statement}
use Rattle.tl_query.specs.declared.faults.TextFault.{TextFault}
use Rattle.tl_query.specs.declared.faults.TextFault.TheVariants.{BadByte, OpenText, NumberTooLarge, Unexpected, QueryTooLong, NoMemory}
use Rattle.tl_query.specs.Scanning.{Tokens, scan}
use Rattle.tl_query.specs.Grammar.{IsSpelling, IsViable}
use Rattle.tl_query.specs.Reading.{statement_at}
use Rattle.tl_query.specs.Printing.{without_offsets}

-- the tokens of a text, up to the first character, text or number at which there is none
abbrev pub tokens_of : List ℕ → Tokens
tokens_of text = scan 0 false 0 text

-- The text has at most 65,536 bytes, is made of tokens, and they spell the statement.
pub record Spells (text : List ℕ) (s : Statement) : Type 0 where
  pub short : length text ≤ 65536
  pub whole : (tokens_of text).fault ≡ None
  pub spelled : IsSpelling (tokens_of text).tokens s

-- The text spells the statement but for its offsets: what it spells is the same with each offset 0.
pub record SpellsAgain (text : List ℕ) (s : Statement) : Type 0 where
  pub read : Statement
  pub spelled : Spells text read
  pub same : without_offsets read ≡ without_offsets s

-- at this offset stands the first token that no statement has after the tokens before it
pub record IsRefused (ts : List Placed) (at : ℕ) : Type 0 where
  pub prefix : List Placed
  pub token : Placed
  pub after : List Placed
  pub parts : ts ≡ prefix ++ (token ∷ after)
  pub place : token.at ≡ at
  pub viable : IsViable prefix
  pub refused : IsViable (prefix ++ (token ∷ [])) → ⊥

-- the tokens begin a statement and are none
pub record EndsEarly (ts : List Placed) : Type 0 where
  pub viable : IsViable ts
  pub unspelled : (s : Statement) → IsSpelling ts s → ⊥

-- a fault that stands where no token does, after tokens that begin a statement
pub record IsBroken (text : List ℕ) (fault : TextFault) : Type 0 where
  pub short : length text ≤ 65536
  pub first : (tokens_of text).fault ≡ Some fault
  pub viable : IsViable (tokens_of text).tokens

-- The fault of a text: it is too long; or the one of least offset among what is no token, the first
-- token that cannot stand where it does, and the end of a text that ends too early.
abbrev pub IsFault : List ℕ → TextFault → Type 0
IsFault text (BadByte at) = IsBroken text (BadByte at)
IsFault text (OpenText at) = IsBroken text (OpenText at)
IsFault text (NumberTooLarge at) = IsBroken text (NumberTooLarge at)
IsFault text (Unexpected at) =
    (length text ≤ 65536)
    × (IsRefused (tokens_of text).tokens at
    ⊎ (((tokens_of text).fault ≡ None) × EndsEarly (tokens_of text).tokens × (at ≡ length text)))
IsFault text QueryTooLong = 65536 < length text
IsFault text NoMemory = ⊥

-- The text means one thing: it spells one statement, or it has one fault, and never both.
pub record HasOneMeaning (text : List ℕ) : Type 0 where
  pub statement : (s t : Statement) → Spells text s → Spells text t → s ≡ t
  pub fault : (e f : TextFault) → IsFault text e → IsFault text f → e ≡ f
  pub never_both : (s : Statement) (e : TextFault) → Spells text s → IsFault text e → ⊥
  pub either : ((s : Statement) × Spells text s) ⊎ ((e : TextFault) × IsFault text e)

-- what reading tokens and a fault after them comes to
abbrev pub outcome : ℕ → Option TextFault → Result Statement (Option ℕ) → Result Statement TextFault
outcome len fault (Err (Some at)) = Err (Unexpected at)
outcome len (Some fault) (Err None) = Err fault
outcome len None (Err None) = Err (Unexpected len)
outcome len (Some fault) (Ok s) = Err fault
outcome len None (Ok s) = Ok s

-- the statement that a text spells, or its fault
unfoldable pub text_read : List ℕ → Result Statement TextFault
text_read text =
    if nat_lt 65536 (length text) then Err QueryTooLong else outcome (length text)
    (tokens_of text).fault (statement_at (tokens_of text).tokens)

-- What parsing returned is what is read, unless memory ran out.
abbrev pub Answers : Result Statement TextFault → Result Statement TextFault → Type 0
Answers (Ok s) read = read ≡ Ok s
Answers (Err (BadByte at)) read = read ≡ Err (BadByte at)
Answers (Err (OpenText at)) read = read ≡ Err (OpenText at)
Answers (Err (NumberTooLarge at)) read = read ≡ Err (NumberTooLarge at)
Answers (Err (Unexpected at)) read = read ≡ Err (Unexpected at)
Answers (Err QueryTooLong) read = read ≡ Err QueryTooLong
Answers (Err NoMemory) read = Unit {0}
