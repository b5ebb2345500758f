-- Keywords, and names of tables and columns.
use Rattle.std.specs.Prelude.{ℕ, Bool, false, ◌&&◌, ◌||◌, not, nat_le, ◌==◌, List, [], ◌∷◌, length, codes, find, Option, is_some}
use Rattle.std.specs.List.{list_all}
use Rattle.std.specs.Cmp.Lexicographic.{pointwise}
use Rattle.tl_types.specs.declared.keywords.Keyword.{Keyword}
use Rattle.tl_types.specs.declared.keywords.Keyword.TheVariants as keyword

-- two byte strings are the same
abbrev pub same_bytes : List ℕ → List ℕ → Bool
same_bytes xs ys = pointwise ◌==◌ xs ys

-- an ASCII digit
abbrev pub is_digit : ℕ → Bool
is_digit b = nat_le 48 b && nat_le b 57

-- an ASCII letter or `_`
abbrev pub begins_word : ℕ → Bool
begins_word b = (nat_le 97 b && nat_le b 122) || (nat_le 65 b && nat_le b 90) || (b == 95)

-- an ASCII letter, a digit or `_`
abbrev pub continues_word : ℕ → Bool
continues_word b = begins_word b || is_digit b

-- how a keyword is spelled
unfoldable pub spelling_of : Keyword → List ℕ
spelling_of keyword.Create = codes "CREATE"
spelling_of keyword.Table = codes "TABLE"
spelling_of keyword.Key = codes "KEY"
spelling_of keyword.Valid = codes "VALID"
spelling_of keyword.Int = codes "INT"
spelling_of keyword.Text = codes "TEXT"
spelling_of keyword.Put = codes "PUT"
spelling_of keyword.Remove = codes "REMOVE"
spelling_of keyword.Select = codes "SELECT"
spelling_of keyword.From = codes "FROM"
spelling_of keyword.Where = codes "WHERE"
spelling_of keyword.And = codes "AND"
spelling_of keyword.Or = codes "OR"
spelling_of keyword.As = codes "AS"
spelling_of keyword.Of = codes "OF"
spelling_of keyword.At = codes "AT"
spelling_of keyword.Count = codes "COUNT"
spelling_of keyword.Sum = codes "SUM"
spelling_of keyword.Avg = codes "AVG"
spelling_of keyword.Min = codes "MIN"
spelling_of keyword.Max = codes "MAX"
spelling_of keyword.By = codes "BY"
spelling_of keyword.Over = codes "OVER"
spelling_of keyword.System = codes "SYSTEM"
spelling_of keyword.All = codes "ALL"
spelling_of keyword.To = codes "TO"
spelling_of keyword.Join = codes "JOIN"
spelling_of keyword.With = codes "WITH"
spelling_of keyword.On = codes "ON"
spelling_of keyword.Forever = codes "FOREVER"
spelling_of keyword.ValidFrom = codes "valid_from"
spelling_of keyword.ValidTo = codes "valid_to"

-- all keywords of the language
unfoldable pub keywords : List Keyword
keywords =
    keyword.Create ∷ keyword.Table ∷ keyword.Key ∷ keyword.Valid ∷ keyword.Int ∷ keyword.Text
    ∷ keyword.Put ∷ keyword.Remove ∷ keyword.Select ∷ keyword.From ∷ keyword.Where ∷ keyword.And
    ∷ keyword.Or ∷ keyword.As ∷ keyword.Of ∷ keyword.At ∷ keyword.Count ∷ keyword.Sum ∷ keyword.Avg
    ∷ keyword.Min ∷ keyword.Max ∷ keyword.By ∷ keyword.Over ∷ keyword.System ∷ keyword.All
    ∷ keyword.To ∷ keyword.Join ∷ keyword.With ∷ keyword.On ∷ keyword.Forever ∷ keyword.ValidFrom
    ∷ keyword.ValidTo ∷ []

-- the keyword that a word is, where it is one
abbrev pub keyword_of : List ℕ → Option Keyword
keyword_of word = find (λ k. same_bytes (spelling_of k) word) keywords

-- one of the keywords of the language
abbrev pub is_keyword : List ℕ → Bool
is_keyword word = is_some (keyword_of word)

-- a word: a letter or `_`, then letters, digits and `_`
abbrev pub is_word : List ℕ → Bool
is_word [] = false
is_word (b ∷ bytes) = begins_word b && list_all continues_word bytes

-- a name: a word of at most 64 bytes that is no keyword
abbrev pub is_name : List ℕ → Bool
is_name word = is_word word && nat_le (length word) 64 && not (is_keyword word)
