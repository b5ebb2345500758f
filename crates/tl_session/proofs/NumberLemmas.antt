-- The number of a table never changes, so a name that finds a table finds it by the same number after
-- more commits.
use Rattle.std.proofs.Common.{◌≡◌, ℕ, List, Option, Some, None, ap, ◌∙◌}
use Rattle.std.specs.Option.{option_map}
use mathlib.Core.List.{IsPrefix}
use Rattle.tl_types.specs.declared.commits.Entry.{Entry}
use Rattle.tl_types.specs.Legality.{database_behind}
use Rattle.tl_types.specs.Plain as plain
use Rattle.tl_types.specs.Resolving.{find_table}
use Rattle.tl_types.proofs.BodyLemmas.{StaysKnown}
use Rattle.tl_engine.proofs.MatchLemmas.{known_on}

-- a table that a name found has its number still
number_stays : (old now : Option (ℕ × plain.Table)) (n : ℕ) → StaysKnown old now → option_map (λ (found : ℕ × plain.Table). found.0) old ≡ Some n → option_map (λ (found : ℕ × plain.Table). found.0) now ≡ Some n
number_stays None now n stays h = absurd (cc)
number_stays (Some x) None n stays h = absurd stays
number_stays (Some x) (Some y) n stays h = ap Some stays.0 ∙ h

-- over what is seen later
pub number_on : (old new : List Entry) (name : List ℕ) (n : ℕ) → IsPrefix old new → option_map (λ (found : ℕ × plain.Table). found.0) (find_table name (database_behind old).tables) ≡ Some n → option_map (λ (found : ℕ × plain.Table). found.0) (find_table name (database_behind new).tables) ≡ Some n
number_on old new name n begins h =
    number_stays (find_table name (database_behind old).tables) (find_table name (database_behind new).tables) n (known_on old new name begins) h
