use Rattle.tl_index.proofs.EntryLemmas.{legal_kept}
use Rattle.tl_index.proofs.ReadLemmas.{marks_read}
use Rattle.tl_index.proofs.StrictLemmas.{climb_strictly}
use Rattle.tl_index.proofs.snapshots.Snapshot.marks.Goals as goal

pub returns-clause-marks : goal.returns-clause-marks
returns-clause-marks c =
    marks_read c.args.self.now c.self.inside.store c.self.inside.log c.self.inside.broken c.self.inside.timelines c.self.inside.marks c.get.result.now c.self.invariant c.self.view_is c.get.ensures

pub returns-clause-strict : goal.returns-clause-strict
returns-clause-strict c =
    climb_strictly c.args.self.now (legal_kept c.args.self.now c.self.inside.store c.self.inside.log c.self.inside.broken c.self.inside.timelines c.self.inside.marks c.self.invariant c.self.view_is)
