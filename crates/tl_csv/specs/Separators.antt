-- Several blocks as one text: each has a separator behind it, a line whose record none of them has.
use Rattle.std.specs.Prelude.{ℕ, ◌≡◌, ◌==◌, Bool, true, false, not, List, [], ◌∷◌, ◌++◌, if◌then◌else◌}
use Rattle.std.specs.List.{list_any}
use Rattle.tl_csv.specs.Block.{records_of}

-- the separator: a line of four quotes
abbrev pub separator : List ℕ
separator = 34 ∷ 34 ∷ 34 ∷ 34 ∷ 10 ∷ []

-- the blocks as one text
abbrev pub separated_text : List (List ℕ) → List ℕ
separated_text [] = []
separated_text (block ∷ blocks) = block ++ (separator ++ separated_text blocks)

-- the field is one quote
abbrev pub is_quote : List ℕ → Bool
is_quote [] = false
is_quote (b ∷ []) = b == 34
is_quote (b ∷ c ∷ bytes) = false

-- the record is that of a separator, which has one field
abbrev pub is_separator : List (List ℕ) → Bool
is_separator [] = false
is_separator (field ∷ []) = is_quote field
is_separator (x ∷ y ∷ fields) = false

-- a separator is among the records
abbrev pub has_separator : List (List (List ℕ)) → Bool
has_separator records = list_any is_separator records

-- the records before the first separator
abbrev pub before_separator : List (List (List ℕ)) → List (List (List ℕ))
before_separator [] = []
before_separator (r ∷ records) = if is_separator r then [] else r ∷ before_separator records

-- the records behind the first separator
abbrev pub behind_separator : List (List (List ℕ)) → List (List (List ℕ))
behind_separator [] = []
behind_separator (r ∷ records) = if is_separator r then records else behind_separator records

-- the records are those of the blocks, each with a separator behind them, and maybe more
abbrev pub AreOfBlocks : List (List (List ℕ)) → List (List ℕ) → Type 0
AreOfBlocks records [] = Unit {0}
AreOfBlocks records (block ∷ blocks) =
    (before_separator records ≡ records_of block) × (has_separator records ≡ true)
    × AreOfBlocks (behind_separator records) blocks

-- the bytes have a quote
abbrev pub has_quote : List ℕ → Bool
has_quote bytes = list_any (λ b. b == 34) bytes

-- the bytes end with a line feed
abbrev pub ends_line : List ℕ → Bool
ends_line [] = false
ends_line (b ∷ []) = b == 10
ends_line (b ∷ c ∷ bytes) = ends_line (c ∷ bytes)

-- the first byte is none of a byte order mark's first
abbrev pub begins_plain : List ℕ → Bool
begins_plain [] = false
begins_plain (b ∷ bytes) = not (b == 0xEF)

-- a block that may stand among others in one text
pub record IsPlain (block : List ℕ) : Type 0 where
  pub quotes : has_quote block ≡ false
  pub ends : ends_line block ≡ true
  pub begins : begins_plain block ≡ true

-- all of the blocks may
abbrev pub ArePlain : List (List ℕ) → Type 0
ArePlain [] = Unit {0}
ArePlain (block ∷ blocks) = IsPlain block × ArePlain blocks
