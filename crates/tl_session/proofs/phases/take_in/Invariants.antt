use Rattle.std.proofs.Common.{◌≡◌, ◌+◌, List, length}
use mathlib.Core.List.{IsPrefix}
use Rattle.tl_types.specs.declared.commits.Entry.{Entry}
use Rattle.tl_session.specs.Phases.{AllSeenIn, amounts_of, parts_of}
use Rattle.tl_session.proofs.phases.take_in.Given as goal

-- the sessions that were taken in are seen and counted, those that are left are not
abbrev pub invariant-loop-session : goal.invariant-loop-session
invariant-loop-session g l =
    (l.pass.table ≡ l.initial.pass.table)
    × (l.share.parts + parts_of l.sessions.items ≡ l.initial.share.parts + parts_of l.initial.sessions.items)
    × (l.share.amount + amounts_of l.sessions.items ≡ l.initial.share.amount + amounts_of l.initial.sessions.items)
    × ((all : List Entry) → IsPrefix l.pass.seen all → AllSeenIn all l.sessions.items → IsPrefix l.initial.pass.seen all × AllSeenIn all l.initial.sessions.items)

abbrev pub decreases-loop-session : goal.decreases-loop-session
decreases-loop-session g l = length l.sessions.items
