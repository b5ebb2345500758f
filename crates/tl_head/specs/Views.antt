-- What a seat of a door knows, in parts.
use Rattle.std.specs.Prelude.{ℕ, true, false, List, []}
use mathlib.Core.Option.{Option, none, some}
use Rattle.tl_types.specs.declared.commits.Entry.{Entry}
use Rattle.tl_head.specs.declared.views.View.{View}
use Rattle.tl_head.specs.declared.views.Stage.{Stage}
use Rattle.tl_head.specs.declared.views.Stage.TheVariants.{Idle, Waits, Served}

-- the same, at another stage
abbrev pub with_stage : Stage → View → View
with_stage stage v = record { stage = stage; seen = v.seen; told = v.told; writes = v.writes }

-- the same, with other entries seen
abbrev pub with_seen : List Entry → View → View
with_seen seen v = record { stage = v.stage; seen = seen; told = v.told; writes = v.writes }

-- the same, and a seat that was joined had seen these entries
abbrev pub with_told : List Entry → View → View
with_told told v = record { stage = v.stage; seen = v.seen; told = told; writes = v.writes }

-- the view of the first seat, the writer's, where these entries are written
abbrev pub writer_view : List Entry → View
writer_view written = record { stage = Idle; seen = written; told = []; writes = true }

-- the view of a seat that is split off: it has seen the same, and does not write
abbrev pub copy_of : View → View
copy_of v = record { stage = Idle; seen = v.seen; told = []; writes = false }

-- the view of a seat that takes in another one
abbrev pub both_of : View → View → View
both_of v other = with_told other.seen v

-- the view that is left of a seat that was taken in
abbrev pub spent_view : View
spent_view = record { stage = Idle; seen = []; told = []; writes = false }

-- the ticket of a seat at this stage
abbrev pub ticket_of : Stage → Option ℕ
ticket_of Idle = none
ticket_of (Waits n) = some n
ticket_of (Served n list) = some n
