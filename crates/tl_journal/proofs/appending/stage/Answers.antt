use Rattle.std.proofs.Common.{[], ◌∷◌, ◌++◌}
use Rattle.tl_journal.specs.Image.{Ends}
use Rattle.tl_journal.proofs.Crash.{write_leaves, ends_itself}
use Rattle.tl_journal.proofs.Phases.{goes, starts}
use Rattle.tl_journal.proofs.appending.stage.Goals as goal

pub returns-in_err-write_at-clause-any_moment : goal.returns-in_err-write_at-clause-any_moment
returns-in_err-write_at-clause-any_moment g c front stored at =
    let first = write_leaves front c.args.at _ _ _ at stored.only c.write_at.ensures.crash in
    let start = starts (g.D.Disk.moment c.args.disk.now) (g.D.Disk.left_since c.args.disk.now) (g.D.Disk.may_leave c.args.disk.now) (front ++ 0 ∷ []) (Ends front) (g.met.D.Disk.only_now c.args.disk.now) stored.only (ends_itself front) in
    goes _ _ _ _ _ _ (Ends front) _ start c.write_at.ensures.time first

pub returns-in_err-write_at-clause-now : goal.returns-in_err-write_at-clause-now
returns-in_err-write_at-clause-now g c front stored at = write_leaves front c.args.at _ _ _ at stored.only c.write_at.ensures.crash

pub returns-clause-any_moment : goal.returns-clause-any_moment
returns-clause-any_moment g c front stored at =
    let first = write_leaves front c.args.at _ _ _ at stored.only c.write_at.ensures.crash in
    let start = starts (g.D.Disk.moment c.args.disk.now) (g.D.Disk.left_since c.args.disk.now) (g.D.Disk.may_leave c.args.disk.now) (front ++ 0 ∷ []) (Ends front) (g.met.D.Disk.only_now c.args.disk.now) stored.only (ends_itself front) in
    let half = goes _ _ _ _ _ _ (Ends front) _ start c.write_at.ensures.time first in
    goes _ _ _ _ _ _ (Ends front) _ half c.sync.ensures.time (λ f left. first f (c.sync.ensures.crash f left))

pub returns-clause-now : goal.returns-clause-now
returns-clause-now g c front stored at f left = write_leaves front c.args.at _ _ _ at stored.only c.write_at.ensures.crash f (c.sync.ensures.crash f left)
