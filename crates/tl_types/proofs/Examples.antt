-- The definitions, computed on a worked history: a table is made at version 1, two rows are put at 2, the
-- first is changed at 3, the second removed at 4 and put again at 5.
use Rattle.std.proofs.Common.{◌≡◌, ℕ, pos, negsuc, Bool, true, false, List, [], ◌∷◌, ◌++◌, Some, None, Ok, Err, refl}
use Rattle.tl_types.specs.Plain as plain
use Rattle.tl_types.specs.declared.commits.Body.{Body}
use Rattle.tl_types.specs.declared.commits.Body.TheVariants as body
use Rattle.tl_types.specs.declared.batches.Batch.TheVariants as batch
use Rattle.tl_types.specs.declared.batches.BatchFault.TheVariants as fault
use Rattle.tl_types.specs.declared.commits.Commit.{Commit}
use Rattle.tl_types.specs.declared.commits.Entry.TheVariants as entry
use Rattle.tl_types.specs.declared.events.ValidEvent.{ValidEvent}
use Rattle.tl_types.specs.History.{open_end, database_of, fits, version_at_moment}
use Rattle.tl_types.specs.Limits.{standard_limits}
use Rattle.tl_types.specs.Resolving.{resolved}
use Rattle.tl_types.specs.Events.{invalidation, activation, events_of, place_of, checkpoint_rows}
use Rattle.tl_types.specs.Checkpoints.{checkpoint_at, comes_before, valid_events_in}
use Rattle.tl_types.specs.Marks.{last_mark, due, paced}
use Rattle.tl_types.specs.Walks.{standing, after_events, events_between}

abbrev row : ℕ → ℕ → plain.Row
row from to = record { cells = []; period = None; from = from; to = to }

abbrev rows : List plain.Row
rows = row 2 3 ∷ row 2 4 ∷ row 3 open_end ∷ row 5 open_end ∷ []

-- EVENTS

events : events_of rows 5 ≡ activation 0 ∷ activation 1 ∷ invalidation 0 ∷ activation 2 ∷ invalidation 1 ∷ activation 3 ∷ []
events = refl

place_before : place_of rows 1 ≡ 0
place_before = refl

place_within : place_of rows 3 ≡ 4
place_within = refl

place_behind : place_of rows 9 ≡ 6
place_behind = refl

kept : checkpoint_rows rows 3 ≡ 1 ∷ 2 ∷ []
kept = refl

-- WALKS

stand_at_3 : standing rows 3 ≡ false ∷ true ∷ true ∷ false ∷ []
stand_at_3 = refl

between : events_between rows 3 5 ≡ invalidation 1 ∷ activation 3 ∷ []
between = refl

walked : after_events (standing rows 3) (events_between rows 3 5) ≡ standing rows 5
walked = refl

-- MARKS

abbrev schema : plain.Schema
schema = record { name = []; columns = []; key = 0; valid = false }

abbrev opened : plain.Opened
opened = record { cells = []; period = None }

abbrev change : List ℕ → List plain.Opened → Commit
change closes opens = record { author = 0; body = body.Change (record { table = 0; closes = closes; opens = opens }) }

abbrev history : List Commit
history =
    record { author = 0; body = body.Create schema } ∷ change [] (opened ∷ opened ∷ []) ∷ change (0 ∷ []) (opened ∷ [])
    ∷ change (1 ∷ []) [] ∷ change [] (opened ∷ []) ∷ []

abbrev row_end : plain.Database → List plain.Table
row_end db = db.tables

of_history : row_end (database_of history) ≡ record { schema = schema; floor = 0; rows = rows } ∷ []
of_history = refl

-- four events at version 3 make a mark due, and two more by version 5 make none
mark_at_3 : paced history 3 ≡
    entry.Commit (record { author = 0; body = body.Create schema }) ∷ entry.Commit (change [] (opened ∷ opened ∷ [])) ∷ entry.Commit (change (0 ∷ []) (opened ∷ []))
    ∷ entry.Mark 0 3 ∷ entry.Commit (change (1 ∷ []) []) ∷ entry.Commit (change [] (opened ∷ [])) ∷ []
unfolding due
mark_at_3 = refl

last : last_mark (paced history 3) 0 ≡ 3
unfolding due
last = refl

no_pace : paced (change [] [] ∷ []) 0 ≡ entry.Commit (change [] []) ∷ []
unfolding due
no_pace = refl

checkpoint : checkpoint_at (database_of history) 0 3 ≡ record { table = 0; version = 3; place = 4; begun = 3; rows = 1 ∷ 2 ∷ []; valid_events = [] }
checkpoint = refl

-- MOMENTS AND FLOORS

abbrev with_body : Body → Commit
with_body what = record { author = 0; body = what }

-- the same history, a moment at 6, a row at 7, a moment at 8, and a floor at 9
abbrev told : List Commit
told = history ++ with_body (body.Moment (pos 1000)) ∷ change [] (opened ∷ []) ∷ with_body (body.Moment (pos 2000)) ∷ with_body (body.Forget 0 3) ∷ []

abbrev stamped : plain.Database
stamped = database_of told

stamps_told : stamped.stamps ≡ record { version = 6; moment = pos 1000 } ∷ record { version = 8; moment = pos 2000 } ∷ []
stamps_told = refl

rows_told : stamped.tables ≡ record { schema = schema; floor = 3; rows = rows ++ row 7 open_end ∷ [] } ∷ []
rows_told = refl

-- before the first stamp, between the two, and from the last one on
moments_told : (version_at_moment 9 stamped.stamps (pos 999) ≡ 5) × (version_at_moment 9 stamped.stamps (negsuc 0) ≡ 5) × (version_at_moment 9 stamped.stamps (pos 1000) ≡ 7) × (version_at_moment 9 stamped.stamps (pos 2000) ≡ 9) × (version_at_moment 9 stamped.stamps (pos 5000) ≡ 9)
moments_told = (refl, refl, refl, refl, refl)

-- a moment has to rise, and a floor too, up to the last version
moments_rise : (fits standard_limits stamped (with_body (body.Moment (pos 2000))) ≡ false) × (fits standard_limits stamped (with_body (body.Moment (pos 2001))) ≡ true)
moments_rise = (refl, refl)

floors_rise : (fits standard_limits stamped (with_body (body.Forget 0 3)) ≡ false) × (fits standard_limits stamped (with_body (body.Forget 0 9)) ≡ true) × (fits standard_limits stamped (with_body (body.Forget 0 10)) ≡ false) × (fits standard_limits stamped (with_body (body.Forget 1 4)) ≡ false)
floors_rise = (refl, refl, refl, refl)

-- what batches become
moments_resolved : (resolved standard_limits stamped 7 (batch.Moment (pos 2000)) ≡ Err (fault.MomentFalls (pos 2000))) × (resolved standard_limits stamped 7 (batch.Moment (pos 2001)) ≡ Ok (record { author = 7; body = body.Moment (pos 2001) }))
moments_resolved = (refl, refl)

floors_resolved : (resolved standard_limits stamped 7 (batch.Forget (99 ∷ []) (pos 4)) ≡ Err fault.UnknownTable) × (resolved standard_limits stamped 7 (batch.Forget [] (pos 10)) ≡ Err (fault.FloorAhead 9)) × (resolved standard_limits stamped 7 (batch.Forget [] (pos 3)) ≡ Err (fault.FloorFalls 3)) × (resolved standard_limits stamped 7 (batch.Forget [] (negsuc 0)) ≡ Err (fault.FloorFalls 3)) × (resolved standard_limits stamped 7 (batch.Forget [] (pos 4)) ≡ Ok (record { author = 7; body = body.Forget 0 4 }))
floors_resolved = (refl, refl, refl, refl, refl)

-- a moment has no mark, and a floor none where no row changed
told_marks : paced told 3 ≡ paced history 3 ++ entry.Commit (with_body (body.Moment (pos 1000))) ∷ entry.Commit (change [] (opened ∷ [])) ∷ entry.Mark 0 7 ∷ entry.Commit (with_body (body.Moment (pos 2000))) ∷ entry.Commit (with_body (body.Forget 0 3)) ∷ []
unfolding due
told_marks = refl

-- VALID TIME

abbrev period : ℕ → ℕ → ℕ → ℕ → plain.Row
period from to begin end = record { cells = []; period = Some (record { from = pos begin; to = pos end }); from = from; to = to }

abbrev event : ℕ → Bool → ℕ → ValidEvent
event time opens row = record { time = pos time; opens = opens; row = row }

-- of two rows that meet at a time the end comes before the beginning
valid : valid_events_in (period 2 open_end 10 20 ∷ period 2 3 0 9 ∷ period 2 open_end 0 10 ∷ []) 3 ≡ event 0 true 2 ∷ event 10 false 2 ∷ event 10 true 0 ∷ event 20 false 0 ∷ []
valid = refl

by_row : comes_before (event 10 true 0) (event 10 true 1) ≡ true
by_row = refl
