-- Stretches of time with something between neighbours, each kept as its end and the moment where it
-- begins.
use Rattle.std.specs.Prelude.{◌≡◌, ℕ, suc, ℤ, negsuc, ◌<ℤ◌, Bool, false, ◌&&◌, int_lt, int_le, List, [], ◌∷◌, ◌++◌, Option, Some, None, if◌then◌else◌, slice_get}
use Rattle.std.specs.List.{list_any}
use Rattle.std.specs.Map.{lookup}
use Rattle.tl_types.specs.declared.cells.Cell.{Cell}
use Rattle.tl_types.specs.Plain as plain
use Rattle.tl_types.specs.History.{is_open, is_within, same_cell}
use Rattle.tl_types.specs.Resolving.{BatchLine, same_key}
use Rattle.tl_batch.specs.Pieces.{part, periods_with, is_affected}

-- the moment is one of those from one on and before another
abbrev pub is_between : ℤ → ℤ → ℤ → Bool
is_between t from to = int_le from t && int_lt t to

-- a stretch has the moment
abbrev pub is_covered : ℤ → List (ℤ × ℤ) → Bool
is_covered t stretches = list_any (λ s. is_between t s.1 s.0) stretches

-- the stretches begin after a moment, none is empty, and there is something between neighbours
abbrev pub Beyond : ℤ → List (ℤ × ℤ) → Type 0
Beyond low [] = Unit {0}
Beyond low (s ∷ stretches) = (low <ℤ s.1) × (s.1 <ℤ s.0) × Beyond s.0 stretches

-- each period that is there has a moment
abbrev pub Full : List (Option plain.Period) → Type 0
Full [] = Unit {0}
Full (None ∷ ps) = Full ps
Full (Some p ∷ ps) = (p.from <ℤ p.to) × Full ps

-- the moment before all numbers of 64 bits
abbrev pub before_all : ℤ
before_all = negsuc 9223372036854775808

-- the first of the stretches that overlaps a stretch or is adjacent to it
abbrev pub joining : ℤ → ℤ → List (ℤ × ℤ) → Option (ℤ × ℤ)
joining from to [] = None
joining from to (s ∷ stretches) =
    if int_lt s.0 from then joining from to stretches else (if int_lt to s.1 then None else Some s)

-- the number of stretches at the front that end before a moment
abbrev pub ended : ℤ → List (ℤ × ℤ) → ℕ
ended from [] = 0
ended from (s ∷ stretches) = if int_lt s.0 from then suc (ended from stretches) else 0

-- the first of the stretches that end after a moment begins before another
abbrev pub first_begins : ℤ → ℤ → List (ℤ × ℤ) → Bool
first_begins from to [] = false
first_begins from to (s ∷ stretches) =
    if int_lt from s.0 then int_lt s.1 to else first_begins from to stretches

-- the times between two moments that no stretch covers
abbrev pub gaps : ℤ → ℤ → List (ℤ × ℤ) → List (Option plain.Period)
gaps from to [] = part from to
gaps from to (s ∷ stretches) =
    if int_lt from s.0 then (if int_lt s.1 to then part from s.1
    ++ gaps s.0 to stretches else part from to) else gaps from to stretches

-- the same of stretches that all end after the first moment
abbrev pub walk : ℤ → ℤ → List (ℤ × ℤ) → List (Option plain.Period)
walk from to [] = part from to
walk from to (s ∷ stretches) =
    if int_lt s.1 to then part from s.1 ++ walk s.0 to stretches else part from to

-- the stretches that are there, or none
abbrev pub stretches_or : Option (List (ℤ × ℤ)) → List (ℤ × ℤ)
stretches_or None = []
stretches_or (Some stretches) = stretches

-- the stretches of a key
abbrev pub cover_at : Cell → List (Cell × List (ℤ × ℤ)) → List (ℤ × ℤ)
cover_at x covers = stretches_or (lookup (same_cell x) covers)

-- key by key, the covers have the moments of the lines and no others, and each period of a line has
-- a moment
pub record HoldLines (covers : List (Cell × List (ℤ × ℤ))) (lines : List BatchLine) : Type 0 where
  pub full : (x : Cell) → Full (periods_with (Some x) lines)
  pub same : (x : Cell) (t : ℤ)
      → is_covered t (cover_at x covers) ≡ list_any (is_within t) (periods_with (Some x) lines)

-- a line has the key
abbrev pub is_said : Option Cell → List BatchLine → Bool
is_said key lines = list_any (λ said. same_key key said.key) lines

-- the stretches that stand with each key are those of the key among all
abbrev pub StandIn : List (Cell × List (ℤ × ℤ)) → List (Cell × List (ℤ × ℤ)) → Type 0
StandIn covers [] = Unit {0}
StandIn covers (e ∷ entries) = (cover_at e.0 covers ≡ e.1) × StandIn covers entries

-- the key is one of those of covers
abbrev pub is_keyed : Option Cell → List (Cell × List (ℤ × ℤ)) → Bool
is_keyed key covers = list_any (λ e. same_key key (Some e.0)) covers

-- the row is there and current, its key is one of those of covers, and a line affects it
abbrev pub affected_among : plain.Schema → List BatchLine → List (Cell × List (ℤ × ℤ))
    → Option plain.Row → Bool
affected_among schema lines covers None = false
affected_among schema lines covers (Some row) =
    is_open row
    && (is_keyed (slice_get row.cells schema.key) covers && is_affected schema lines row)
