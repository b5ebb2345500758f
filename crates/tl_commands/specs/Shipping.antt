-- How `ship` ends, and what it leaves outside. By status:
--
--   status                   written                              the disk stands for
--   Done                     the packets of the journal's          the journal's commits
--                            commits with versions from one
--                            to another, in order of version
--   NoMemory                 nothing                              the same
--   SinkFault                first bytes of these, or of the       the same
--                            closing line where it is not opened
--   DiskFault,               as for a run that is not opened
--   NotInitialised, Damaged
use Rattle.std.specs.Prelude.{◌⊎◌, ℕ, List, None}
use Rattle.tl_types.specs.declared.commits.Commit.{Commit}
use Rattle.tl_follow.specs.Shipping.{shipment}
use Rattle.tl_command.specs.declared.statuses.Status.{Status}
use Rattle.tl_command.specs.declared.statuses.Status.TheVariants as status
use Rattle.tl_command.specs.Closing.{EndsRefused, Writes}
use Rattle.tl_command.specs.Outside.{Outside, OpensWith, HoldsJournal}

-- how it ends over a journal that was opened with these commits
pub record ShipOpened (from to : ℕ) (opening : List Commit) (before after : Outside)
    (ended : Status) : Type 0 where
  pub opens : OpensWith opening before
  pub holds : HoldsJournal opening None before after
  pub writes : Writes (shipment from to opening) status.Done before.written after.written
      before.sink_faults after.sink_faults ended

-- how `ship` ends: its journal is not opened, as for a run; or it is
abbrev pub ShipEnds : ℕ → ℕ → Outside → Outside → Status → Type 0
ShipEnds from to before after ended =
    EndsRefused before after ended
    ⊎ ((opening : List Commit) × ShipOpened from to opening before after ended)
