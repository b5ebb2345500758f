-- The definitions, computed on a worked history: two rows put at version 2, the first changed at 3, the second
-- removed at 4 and put again at 5; and on a table with periods, one of which is cut.
use Rattle.std.proofs.Common.{◌≡◌, ℕ, pos, true, false, List, [], ◌∷◌, Some, None, refl}
use Rattle.tl_types.specs.Plain as plain
use Rattle.tl_types.specs.declared.cells.Cell.TheVariants as cell
use Rattle.tl_types.specs.declared.cells.ColumnKind.TheVariants.{IntKind}
use Rattle.tl_types.specs.declared.schemas.Column.{Column}
use Rattle.tl_types.specs.declared.commits.Commit.{Commit}
use Rattle.tl_types.specs.declared.commits.Body.TheVariants as body
use Rattle.tl_types.specs.declared.commits.Entry.{Entry}
use Rattle.tl_types.specs.declared.commits.Entry.TheVariants as entry
use Rattle.tl_types.specs.History.{database_of}
use Rattle.tl_core.specs.declared.steps.Step.{Step}
use Rattle.tl_core.specs.declared.steps.Step.TheVariants as step
use Rattle.tl_types.specs.declared.events.ValidEvent.{ValidEvent}
use Rattle.tl_types.specs.Checkpoints.{checkpoint_at}
use Rattle.tl_types.specs.Legality.{are_legal}
use Rattle.tl_core.specs.World.{start_of, after_steps}

-- A HISTORY

abbrev id : Column
id = record { name = 105 ∷ 100 ∷ []; kind = IntKind }

abbrev table : plain.Schema
table = record { name = 101 ∷ 109 ∷ 112 ∷ []; columns = id ∷ []; key = 0; valid = false }

abbrev create : Commit
create = record { author = 1; body = body.Create table }

abbrev opened : ℕ → plain.Opened
opened n = record { cells = cell.Int (pos n) ∷ []; period = None }

abbrev change : List ℕ → List plain.Opened → Commit
change closes opens = record { author = 2; body = body.Change (record { table = 0; closes = closes; opens = opens }) }

abbrev second : Commit
second = change [] (opened 1 ∷ opened 2 ∷ [])

abbrev third : Commit
third = change (0 ∷ []) (opened 1 ∷ [])

abbrev fourth : Commit
fourth = change (1 ∷ []) []

abbrev fifth : Commit
fifth = change [] (opened 2 ∷ [])

at_three : checkpoint_at (database_of (create ∷ second ∷ third ∷ fourth ∷ fifth ∷ [])) 0 3 ≡ record { table = 0; version = 3; place = 4; begun = 3; rows = 1 ∷ 2 ∷ []; valid_events = [] }
at_three = refl

at_three_then : checkpoint_at (database_of (create ∷ second ∷ third ∷ [])) 0 3 ≡ record { table = 0; version = 3; place = 4; begun = 3; rows = 1 ∷ 2 ∷ []; valid_events = [] }
at_three_then = refl

-- A WALK OF TWO PASSES

-- what is not allowed is passed over: a name that is there, a row that is closed, a build that has ended, a pass and a
-- table that are not there, and what comes behind the break
abbrev walk : List Step
walk =
    step.Publish create ∷ step.Publish create ∷ step.Publish second ∷ step.Begin 0 0 ∷ step.Begin 2 0
    ∷ step.Begin 1 1 ∷ step.Publish third ∷ step.Publish third ∷ step.Mark 0 ∷ step.Mark 0 ∷ step.Begin 1 0
    ∷ step.Break fourth ∷ step.Publish fifth ∷ step.Mark 1 ∷ step.Read 0 ∷ []

abbrev walked : List Entry
walked =
    entry.Commit create ∷ entry.Commit second ∷ entry.Commit third ∷ entry.Mark 0 2 ∷ entry.Break fourth ∷ []

walk_ends : after_steps (start_of [] 2) walk ≡ record { entries = walked; passes = record { seen = 5; build = None } ∷ record { seen = 4; build = Some (record { table = 0; base = 4 }) } ∷ [] }
walk_ends = refl

walked_is_legal : are_legal walked ≡ true
walked_is_legal = refl

nothing_follows_a_break : are_legal (entry.Commit create ∷ entry.Break second ∷ entry.Mark 0 1 ∷ []) ≡ false
nothing_follows_a_break = refl

no_mark_twice : are_legal (entry.Commit create ∷ entry.Mark 0 1 ∷ entry.Mark 0 1 ∷ []) ≡ false
no_mark_twice = refl

no_mark_ahead : are_legal (entry.Commit create ∷ entry.Mark 0 2 ∷ entry.Commit second ∷ []) ≡ false
no_mark_ahead = refl

-- VALID TIME

abbrev valid_table : plain.Schema
valid_table = record table { valid = true }

abbrev held : ℕ → ℕ → plain.Opened
held from to = record { cells = cell.Int (pos 1) ∷ []; period = Some (record { from = pos from; to = pos to }) }

abbrev periods : List Commit
periods =
    record { author = 1; body = body.Create valid_table } ∷ change [] (held 0 100 ∷ [])
    ∷ change (0 ∷ []) (held 0 10 ∷ held 20 100 ∷ held 10 20 ∷ []) ∷ []

abbrev event : ℕ → ℕ → ValidEvent
event time row = record { time = pos time; opens = true; row = row }

abbrev end : ℕ → ℕ → ValidEvent
end time row = record { time = pos time; opens = false; row = row }

ends_come_first : checkpoint_at (database_of periods) 0 3 ≡ record { table = 0; version = 3; place = 5; begun = 4; rows = 1 ∷ 2 ∷ 3 ∷ []; valid_events = event 0 1 ∷ end 10 1 ∷ event 10 3 ∷ end 20 3 ∷ event 20 2 ∷ end 100 2 ∷ [] }
ends_come_first = refl

at_two : checkpoint_at (database_of periods) 0 2 ≡ record { table = 0; version = 2; place = 1; begun = 1; rows = 0 ∷ []; valid_events = event 0 0 ∷ end 100 0 ∷ [] }
at_two = refl
