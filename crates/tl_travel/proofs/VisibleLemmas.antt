-- The ids of the rows that stand, and the steps that it takes to tell them.
use Rattle.std.proofs.Common.{◌≡◌, ℕ, ◌+◌, ◌*◌, ◌≤◌, Bool, true, false, cond, List, [], ◌∷◌, length, map, refl, ap, ◌∙◌, arith}
use Rattle.std.specs.List.{filter, enumerate_from}
use Rattle.std.proofs.lemmas.List.{length-drop}
use Rattle.tl_types.specs.Plain as plain
use Rattle.tl_types.specs.History.{is_visible, visible_rows, rows_of}
use Rattle.tl_types.specs.Events.{ids_from, events_of, place_of}
use Rattle.tl_types.specs.Walks.{standing, events_between}
use Rattle.tl_bits.specs.Sets.{members}

ids_told : (test : plain.Row → Bool) (n : ℕ) (rows : List plain.Row) → ids_from n (λ (b : Bool). b) (map test rows) ≡ map (λ r. r.0) (filter (λ r. test r.1) (enumerate_from n rows))
ids_told test n [] = refl
ids_told test n (row ∷ rows) = by_test (test row) (ids_told test (n + 1) rows) where
  by_test : (b : Bool) → ids_from (n + 1) (λ (b : Bool). b) (map test rows) ≡ map (λ r. r.0) (filter (λ r. test r.1) (enumerate_from (n + 1) rows))
      → map (λ (r : ℕ × Bool). r.0) (cond b ((n, b) ∷ filter (λ (r : ℕ × Bool). r.1) (enumerate_from (n + 1) (map test rows))) (filter (λ (r : ℕ × Bool). r.1) (enumerate_from (n + 1) (map test rows))))
      ≡ map (λ (r : ℕ × plain.Row). r.0) (cond b ((n, row) ∷ filter (λ (r : ℕ × plain.Row). test r.1) (enumerate_from (n + 1) rows)) (filter (λ (r : ℕ × plain.Row). test r.1) (enumerate_from (n + 1) rows)))
  by_test true ih = ap (λ ids. n ∷ ids) ih
  by_test false ih = ih

-- the members of the set of the rows that stand are the ids of the visible rows
pub visible_members : (db : plain.Database) (table version : ℕ) (set : List Bool) → set ≡ standing (rows_of db table) version
    → members set ≡ map (λ r. r.0) (visible_rows db table version)
visible_members db table version set is = ap members is ∙ ids_told (is_visible version) 0 (rows_of db table)

-- steps counted by places are those counted by events
pub within_bound : (rows : List plain.Row) (from to before after words digits : ℕ) → after + place_of rows from ≤ before + place_of rows to + digits
    → after ≤ before + length (events_between rows from to) + words + 2 * digits
within_bound rows from to before after words digits h =
    let e = length-drop (place_of rows from) (events_of rows to) in
    omega arith

pub ruleset visible_at = (visible_members, within_bound)
