-- The records of the commits so far are behind the body, and there is room.
use Rattle.std.proofs.Common.{◌≤◌, take}
use Rattle.tl_history.specs.Committing.{TakesRoom}
use Rattle.tl_group.specs.Bodies.{PutsRecords}
use Rattle.tl_group.proofs.bodies.GroupBody.put_commits.Given as goal

abbrev pub invariant-loop-commit : goal.invariant-loop-commit
invariant-loop-commit g l = record {
  puts : PutsRecords (take l.commit-index l.commits) l.fn.self.bytes l.self.bytes;
  spare : l.self.room ≤ l.journal.spare;
  journal : TakesRoom g.D.Disk.reads g.D.Disk.may_leave g.D.Disk.moment g.D.Disk.left_since g.D.Disk.faults l.fn.journal l.journal;
}
