-- The ids of rows by their keys: one id or two of each key that has any, and further ones.
use Rattle.std.specs.Ordering.{int_eq}
use Rattle.std.specs.Prelude.{◌≡◌, if◌then◌else◌, ℕ, ℤ, pos, negsuc, Bool, false, ◌||◌, ◌&&◌, ◌==◌, nat_lt, slice_get, List, [], Option, Some, None}
use Rattle.std.specs.List.{list_any}
use Rattle.std.specs.Map.{lookup}
use Rattle.tl_types.specs.declared.cells.Cell.{Cell}
use Rattle.tl_types.specs.declared.cells.Cell.TheVariants as cell
use Rattle.tl_types.specs.Names.{same_bytes}
use Rattle.tl_types.specs.History.{has_id, same_cell}
use Rattle.tl_batch.specs.declared.two_ids.TwoIds.{TwoIds}
use Rattle.tl_batch.specs.declared.few_ids.FewIds.{FewIds}

-- one id or two of each key that has any: of numbers, and of texts
pub record FewIdsByKey : Type 0 where
  pub numbers : List (ℤ × FewIds)
  pub texts : List (List ℕ × FewIds)

-- the ids of small keys: one or two of each, and sets of further ones
pub record SmallIds : Type 0 where
  pub two : List TwoIds
  pub sets : List (List ℕ)

-- the ids of rows by their keys: those of small keys, one or two of each, and the further
-- ones
pub record IdsByKey : Type 0 where
  pub small : SmallIds
  pub few : FewIdsByKey
  pub further : List (Cell × List ℕ)

-- no ids
abbrev pub no_ids : IdsByKey
no_ids =
    record {
      small = record { two = []; sets = [] };
      few = record { numbers = []; texts = [] };
      further = [];
    }

-- this is the one id or the other
abbrev pub is_of : FewIds → ℕ → Bool
is_of ids n = n == ids.first || n == ids.last

-- there are one or two ids, and this is one of them
abbrev pub is_among_few : Option FewIds → ℕ → Bool
is_among_few None n = false
is_among_few (Some ids) n = is_of ids n

-- the id is one of the one or two ids that stand at a key, where keys are compared by a test
abbrev pub is_at_key : {K : Type 0} → (K → K → Bool) → List (K × FewIds) → K → ℕ → Bool
is_at_key same entries key n = is_among_few (lookup (same key) entries) n

-- the id is one of the one or two ids of the key
abbrev pub has_few : FewIdsByKey → Cell → ℕ → Bool
has_few few (cell.Int i) n = is_at_key int_eq few.numbers i n
has_few few (cell.Text t) n = is_at_key same_bytes few.texts t n

-- one of the ids, where there are any, is this one
abbrev pub is_among_ids : Option (List ℕ) → ℕ → Bool
is_among_ids None n = false
is_among_ids (Some ids) n = has_id ids n

-- the id is one of the further ids of the key
abbrev pub has_further : List (Cell × List ℕ) → Cell → ℕ → Bool
has_further further x n = is_among_ids (lookup (same_cell x) further) n

-- the number stands for the id: the greatest one of 32 bits stands for none
abbrev pub stands_for_id : ℕ → ℕ → Bool
stands_for_id number n = n == number && nat_lt n 4294967295

-- this is one of the ids
abbrev pub is_of_two : TwoIds → ℕ → Bool
is_of_two ids n = stands_for_id ids.one n || stands_for_id ids.other n

-- there are ids, and this is one of them
abbrev pub is_among_two : Option TwoIds → ℕ → Bool
is_among_two None n = false
is_among_two (Some ids) n = is_of_two ids n

-- the id is one of those at the place of a number
abbrev pub has_number : List TwoIds → ℤ → ℕ → Bool
has_number ids (pos place) n = is_among_two (slice_get ids place) n
has_number ids (negsuc i) n = false

-- the id is one of those at the place of the key
abbrev pub has_two : List TwoIds → Cell → ℕ → Bool
has_two ids (cell.Int i) n = has_number ids i n
has_two ids (cell.Text t) n = false

-- the id is in the set at the place of a number
abbrev pub in_set_of : List (List ℕ) → ℤ → ℕ → Bool
in_set_of sets (pos place) n = is_among_ids (slice_get sets place) n
in_set_of sets (negsuc i) n = false

-- the id is in the set at the place of the key
abbrev pub has_set : List (List ℕ) → Cell → ℕ → Bool
has_set sets (cell.Int i) n = in_set_of sets i n
has_set sets (cell.Text t) n = false

-- the id is one of those of the small key
abbrev pub has_small : SmallIds → Cell → ℕ → Bool
has_small ids x n = has_two ids.two x n || has_set ids.sets x n

-- the id stands there under the key
abbrev pub has_row : IdsByKey → Cell → ℕ → Bool
has_row ids x n = has_small ids.small x n || has_few ids.few x n || has_further ids.further x n

-- the id is one of those of some small key
abbrev pub any_small : SmallIds → ℕ → Bool
any_small ids n =
    list_any (λ two. is_of_two two n) ids.two || list_any (λ set. has_id set n) ids.sets

-- the id is one of the one or two ids of some key
abbrev pub any_at : {K : Type 0} → List (K × FewIds) → ℕ → Bool
any_at entries n = list_any (λ e. is_of e.1 n) entries

-- the id is one of the one or two ids of some number or text
abbrev pub any_few : FewIdsByKey → ℕ → Bool
any_few few n = any_at few.numbers n || any_at few.texts n

-- the id is one of the further ids of some key
abbrev pub any_further : List (Cell × List ℕ) → ℕ → Bool
any_further further n = list_any (λ e. has_id e.1 n) further

-- the id stands there under some key
abbrev pub any_row : IdsByKey → ℕ → Bool
any_row ids n = any_small ids.small n || any_few ids.few n || any_further ids.further n

-- what is found at each key after what is found at one key has become this
abbrev pub Changes : {X : Type 0} → Cell → Option X → List (Cell × X) → List (Cell × X) → Type 0
Changes key w before after =
    (q : Cell) → lookup (same_cell q) after
    ≡ (if same_cell key q then w else lookup (same_cell q) before)
