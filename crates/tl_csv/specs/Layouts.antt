-- How the records behind a header are laid out.
use Rattle.std.specs.Prelude.{ℕ, ◌≡◌, ◌≤◌, ◌+◌, Bool, true, ◌&&◌, not, nat_lt, ◌==◌, List, [], ◌∷◌, length, Option, Some, None}
use Rattle.std.specs.List.{list_all, list_any}
use Rattle.tl_csv.specs.declared.needs.FieldKind.{FieldKind}
use Rattle.tl_csv.specs.declared.layouts.PeriodPlaces.{PeriodPlaces}

-- what each field of a record is, where the columns' cells stand, in the order of the table, and
-- the period's ends
pub record Layout : Type 0 where
  pub kinds : List FieldKind
  pub columns : List ℕ
  pub period : Option PeriodPlaces

-- no place comes twice
abbrev pub are_distinct_places : List ℕ → Bool
are_distinct_places [] = true
are_distinct_places (p ∷ ps) = not (list_any (λ q. q == p) ps) && are_distinct_places ps

-- each place is one of so many
abbrev pub are_within : ℕ → List ℕ → Bool
are_within n places = list_all (λ p. nat_lt p n) places

-- the places are those from one on, in order
abbrev pub are_places_from : ℕ → List ℕ → Bool
are_places_from n [] = true
are_places_from n (p ∷ ps) = (p == n) && are_places_from (n + 1) ps

-- the places are the first ones, in order
abbrev pub are_in_order : List ℕ → Bool
are_in_order places = are_places_from 0 places

-- the ends of the period stand at two of so many places
abbrev pub is_period_within : ℕ → Option PeriodPlaces → Bool
is_period_within n None = true
is_period_within n (Some places) = nat_lt places.from n && nat_lt places.to n

-- what a layout keeps: 1 to 16 columns, each at a place of its own, and all places are those of
-- fields
pub record IsLayout (layout : Layout) : Type 0 where
  pub some : 1 ≤ length layout.columns
  pub few : length layout.columns ≤ 16
  pub distinct : are_distinct_places layout.columns ≡ true
  pub columns : are_within (length layout.kinds) layout.columns ≡ true
  pub period : is_period_within (length layout.kinds) layout.period ≡ true
