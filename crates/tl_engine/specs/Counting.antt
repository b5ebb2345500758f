-- How many commits and breaks a list of entries has.
use Rattle.std.specs.Prelude.{◌≡◌, ℕ, ◌+◌, List, [], ◌∷◌}
use mathlib.Core.List.{IsPrefix}
use Rattle.tl_types.specs.declared.commits.Entry.{Entry}
use Rattle.tl_types.specs.declared.commits.Entry.TheVariants as entry

-- how many entries are commits or breaks
abbrev pub news : List Entry → ℕ
news [] = 0
news (entry.Commit c ∷ rest) = 1 + news rest
news (entry.Mark n v ∷ rest) = news rest
news (entry.Break c ∷ rest) = 1 + news rest

-- the list begins with the first entries, and has so many commits and breaks more
pub record Continues (first_entries list : List Entry) (count : ℕ) : Type 0 where
  pub begins : IsPrefix first_entries list
  pub counted : news first_entries + count ≡ news list
