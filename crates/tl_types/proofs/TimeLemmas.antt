-- The stamps of a history rise, each stamp and each floor is of a version that it has, and its rows do not
-- depend on its floors.
use Rattle.std.proofs.Common.{◌≡◌, ℕ, zero, suc, ◌+◌, ◌-◌, ◌≤◌, ◌<ℤ◌, ℤ, Bool, true, false, cond, int_lt, nat_lt, nat_le, List, [], ◌∷◌, ◌++◌, length, fold, Option, Some, None, IfSome, refl, arith, append-nil, slice_get}
use Rattle.std.specs.List.{last_or}
use Rattle.std.specs.Option.{option_map}
use Rattle.std.proofs.lemmas.Bool.Decides.{nat_tests}
use Rattle.std.proofs.lemmas.Int.{ints}
use Rattle.tl_types.proofs.Lists.{and_right}
use Rattle.tl_types.proofs.BodyLemmas.{IsKept, all_after}
use Rattle.tl_types.specs.Plain as plain
use Rattle.tl_types.specs.declared.commits.Commit.{Commit}
use Rattle.tl_types.specs.declared.commits.Body.{Body}
use Rattle.tl_types.specs.declared.commits.Body.TheVariants as body
use Rattle.tl_types.specs.History.{after_body, stamps_of, after_commit, nothing, database_of, is_later, fits_floor, fits_body, version_at_moment, without_floors, rows_of}
use Rattle.tl_types.specs.Limits.{standard_limits}
use Rattle.tl_types.specs.Legality.{FitFrom, FitInTurn}
use Rattle.tl_types.specs.WellFormed.{Follows, Rise, HaveReachedStamps, HasTimes}

-- STAMPS

-- a stamp more, which follows the last one
rise_more : (last : Option plain.Stamp) (stamps : List plain.Stamp) (s : plain.Stamp) → Rise last stamps → Follows (last_or last stamps) s → Rise last (stamps ++ s ∷ [])
rise_more last [] s h f = (f, tt)
rise_more last (x ∷ stamps) s h f = (h.0, rise_more (Some x) stamps s h.1 f)

reached_later : (v w : ℕ) (stamps : List plain.Stamp) → v ≤ w → HaveReachedStamps v stamps → HaveReachedStamps w stamps
reached_later v w [] l h = tt
reached_later v w (s ∷ stamps) l h = (omega (arith, h.0), reached_later v w stamps l h.1)

reached_more : (v : ℕ) (stamps : List plain.Stamp) (s : plain.Stamp) → s.version ≤ v → HaveReachedStamps v stamps → HaveReachedStamps v (stamps ++ s ∷ [])
reached_more v [] s l h = (l, tt)
reached_more v (x ∷ stamps) s l h = (h.0, reached_more v stamps s l h.1)

-- the last stamp is of a version that was reached
last_reached : (v : ℕ) (o : Option plain.Stamp) (stamps : List plain.Stamp) → IfSome o (λ s. s.version ≤ v) → HaveReachedStamps v stamps → IfSome (last_or o stamps) (λ s. s.version ≤ v)
last_reached v o [] h k = h
last_reached v o (s ∷ stamps) h k = last_reached v (Some s) stamps k.0 k.1

less : (a b : ℤ) → int_lt a b ≡ true → a <ℤ b
less a b h = grind (arith, ints)

-- a later moment at the next version follows the last stamp
later_follows : (v : ℕ) (moment : ℤ) (o : Option plain.Stamp) → IfSome o (λ s. s.version ≤ v) → is_later moment (option_map (λ s. s.moment) o) ≡ true → Follows o (record { version = v + 1; moment = moment })
later_follows v moment None h l = omega arith
later_follows v moment (Some s) h l = (omega (arith, h), less s.moment moment l)

-- FLOORS

-- a floor that fits is a version that was reached
floor_reached : (now floor : ℕ) (o : Option plain.Table) → fits_floor now floor o ≡ true → floor ≤ now
floor_reached now floor None h = absurd (cc)
floor_reached now floor (Some t) h = let k = and_right (nat_lt t.floor floor) (nat_le floor now) h in grind (arith, nat_tests, k)

floors_kept : (v : ℕ) → IsKept v (λ t. t.floor ≤ v) (λ t. t.floor ≤ v + 1)
floors_kept v = record {
  made = λ schema. omega arith;
  changed = λ change t f h. omega (arith, h);
  floored = λ floor t f h. let l = floor_reached v floor (Some t) f in omega (arith, l);
  left = λ t h. omega (arith, h);
}

-- COMMITS THAT FIT

abbrev with_commit : plain.Database → Body → plain.Database
with_commit db b = record { version = db.version + 1; tables = after_body (db.version + 1) b db.tables; stamps = db.stamps ++ stamps_of (db.version + 1) b }

-- what the stamps of a database have, whatever its floors
abbrev HasStamps : ℕ → List plain.Stamp → Type 0
HasStamps version stamps = Rise None stamps × HaveReachedStamps version stamps

unstamped : (db : plain.Database) → HasTimes db → HasStamps (db.version + 1) (db.stamps ++ [])
unstamped db h = rw (append-nil db.stamps) (h.rise, reached_later db.version (db.version + 1) db.stamps (omega arith) h.stamps)

stamps_done : (db : plain.Database) (b : Body) → HasTimes db → fits_body standard_limits db b ≡ true → HasStamps (db.version + 1) (db.stamps ++ stamps_of (db.version + 1) b)
stamps_done db (body.Create schema) h f = unstamped db h
stamps_done db (body.Change change) h f = unstamped db h
stamps_done db (body.Moment moment) h f =
    let stamp : plain.Stamp = record { version = db.version + 1; moment = moment } in (
      rise_more None db.stamps stamp h.rise (later_follows db.version moment (last_or None db.stamps) (last_reached db.version None db.stamps tt h.stamps) f),
      reached_more (db.version + 1) db.stamps stamp (omega arith) (reached_later db.version (db.version + 1) db.stamps (omega arith) h.stamps),
    )
stamps_done db (body.Forget number floor) h f = unstamped db h

body_timed : (db : plain.Database) (b : Body) → HasTimes db → fits_body standard_limits db b ≡ true → HasTimes (with_commit db b)
body_timed db b h f =
    let stamped = stamps_done db b h f in
    record { rise = stamped.0; stamps = stamped.1; floors = all_after (λ t. t.floor ≤ db.version) (λ t. t.floor ≤ db.version + 1) db b (floors_kept db.version) f h.floors }

pub commits_timed : (db : plain.Database) (cs : List Commit) → HasTimes db → FitFrom standard_limits db cs → HasTimes (fold after_commit db cs)
commits_timed db [] h f = h
commits_timed db (c ∷ cs) h f = commits_timed (after_commit db c) cs (body_timed db c.body h (and_right (nat_lt db.version 16777215) (fits_body standard_limits db c.body) f.0)) f.1

-- the stamps and the floors of a history
pub history_timed : (cs : List Commit) → FitInTurn standard_limits cs → HasTimes (database_of cs)
history_timed cs f = commits_timed nothing cs (record { rise = tt; stamps = tt; floors = tt }) f

-- the version at a moment was reached
pub moment_reached : (now : ℕ) (stamps : List plain.Stamp) (moment : ℤ) → HaveReachedStamps now stamps → version_at_moment now stamps moment ≤ now
moment_reached now [] moment h = omega arith
moment_reached now (s ∷ stamps) moment h = by_test (int_lt moment s.moment) (moment_reached now stamps moment h.1) where
  by_test : (b : Bool) → version_at_moment now stamps moment ≤ now → cond b (s.version - 1) (version_at_moment now stamps moment) ≤ now
  by_test true l = omega (arith, h.0)
  by_test false l = l

pub history_moment : (cs : List Commit) (moment : ℤ) → FitInTurn standard_limits cs → version_at_moment (database_of cs).version (database_of cs).stamps moment ≤ (database_of cs).version
history_moment cs moment f = moment_reached (database_of cs).version (database_of cs).stamps moment (history_timed cs f).stamps

-- the last of several, by its place
pub last_get : {X : Type 0} (o : Option X) (x : X) (xs : List X) → slice_get (x ∷ xs) (length xs) ≡ last_or o (x ∷ xs)
last_get o x [] = refl
last_get o x (y ∷ xs) = last_get (Some x) y xs

-- ROWS WITHOUT FLOORS

rows_at : (version : ℕ) (stamps : List plain.Stamp) (tables : List plain.Table) (table : ℕ) → rows_of (without_floors (record { version = version; tables = tables; stamps = stamps })) table ≡ rows_of (record { version = version; tables = tables; stamps = stamps }) table
rows_at version stamps [] table = refl
rows_at version stamps (t ∷ tables) zero = refl
rows_at version stamps (t ∷ tables) (suc table) = rows_at version stamps tables table

-- the rows of a database are those of what it is but for its floors
pub rows_without_floors : (db : plain.Database) (table : ℕ) → rows_of (without_floors db) table ≡ rows_of db table
rows_without_floors db table = rows_at db.version db.stamps db.tables table
