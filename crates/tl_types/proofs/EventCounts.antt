-- How many events of valid time there are at a version: no more than two for each row that is visible.
use Rattle.std.proofs.Common.{◌≡◌, ℕ, ◌+◌, ◌*◌, ◌≤◌, Bool, true, false, cond, List, [], ◌∷◌, length, Option, Some, None, refl, arith}
use Rattle.std.specs.List.{fold}
use Rattle.std.proofs.lemmas.List.{length-append}
use Rattle.tl_types.specs.declared.events.ValidEvent.{ValidEvent}
use Rattle.tl_types.specs.Plain as plain
use Rattle.tl_types.specs.History.{rows_of, visible_rows}
use Rattle.tl_types.specs.Checkpoints.{inserted, comes_before, ends_of, ends_of_rows, valid_events_in}

inserted_one : (event : ValidEvent) (events : List ValidEvent) → length (inserted event events) ≡ length events + 1
inserted_one event [] = refl
inserted_one event (next ∷ events) = by_test (comes_before next event) (inserted_one event events) where
  by_test : (b : Bool) → length (inserted event events) ≡ length events + 1 → length (cond b (next ∷ inserted event events) (event ∷ next ∷ events)) ≡ length (next ∷ events) + 1
  by_test true h = omega arith
  by_test false h = omega arith

pub fold_many : (done events : List ValidEvent) → length (fold (λ ordered event. inserted event ordered) done events) ≡ length done + length events
fold_many done [] = omega arith
fold_many done (event ∷ events) = let h = fold_many (inserted event done) events in let k = inserted_one event done in omega arith

ends_few : (id : ℕ) (period : Option plain.Period) → length (ends_of id period) ≤ 2
ends_few id None = omega arith
ends_few id (Some period) = omega arith

pub rows_few : (rows : List (ℕ × plain.Row)) → length (ends_of_rows rows) ≤ 2 * length rows
rows_few [] = omega arith
rows_few (r ∷ rows) =
    let a = length-append (ends_of r.0 r.1.period) (ends_of_rows rows) in
    let b = ends_few r.0 r.1.period in
    let c = rows_few rows in
    omega arith

-- they are no more than two for each row that is visible
pub events_few : (db : plain.Database) (table version : ℕ) → length (valid_events_in (rows_of db table) version) ≤ 2 * length (visible_rows db table version)
events_few db table version =
    let a = fold_many [] (ends_of_rows (visible_rows db table version)) in
    let b = rows_few (visible_rows db table version) in
    omega arith
