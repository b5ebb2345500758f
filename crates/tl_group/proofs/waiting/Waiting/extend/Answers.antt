use Rattle.std.proofs.Common.{◌≡◌, ◌++◌, map, refl, sym, subst}
use Rattle.tl_index.specs.Snapshots.{commit_entry}
use Rattle.tl_group.specs.Keeping.{waiting_commits}
use Rattle.tl_group.specs.Plain as plain
use Rattle.tl_group.proofs.WaitLemmas.{given_back, kept_all, stands_on, waits_with_all}
use Rattle.tl_group.proofs.waiting.Waiting.extend.Goals as goal

pub returns-in_default-clause-err : goal.returns-in_default-clause-err
returns-in_default-clause-err g c =
    let disks = g.D.Disk in
    let old : plain.Group g.row.D.Denot = record { journal = c.self.inside.journal; entries = c.self.inside.snapshot; first = c.self.inside.first; limits = c.self.inside.limits } in
    rw (← c.self.view_is) (given_back disks.reads disks.may_leave disks.moment disks.left_since disks.faults old c.put_commits.new.journal c.into_disk.result c.into_disk.ensures c.put_commits.ensures.journal)

pub invariant_of-result : goal.invariant_of-result
invariant_of-result g c =
    let kept = c.self.invariant in
    let commits = c.args.commits.now in
    let old : plain.Group g.row.D.Denot = record { journal = c.self.inside.journal; entries = c.self.inside.snapshot; first = c.self.inside.first; limits = c.self.inside.limits } in
    let new : plain.Group g.row.D.Denot = record { journal = c.put_commits.new.journal; entries = c.args.next; first = c.self.inside.first; limits = c.self.inside.limits } in
    let more = subst (λ (w : plain.Group g.row.D.Denot). c.args.next ≡ w.entries ++ map commit_entry commits) (sym c.self.view_is) c.requires.next in
    kept_all c.self.inside.body c.put_commits.new.self old new commits kept more refl refl c.put_commits.ensures.journal.broken_same (c.in-Ok.ensures.body (waiting_commits old) (kept.written, kept.body_is)) c.put_commits.ensures.spare

pub returns-clause-ok : goal.returns-clause-ok
returns-clause-ok g c =
    let commits = c.args.commits.now in
    let old : plain.Group g.row.D.Denot = record { journal = c.self.inside.journal; entries = c.self.inside.snapshot; first = c.self.inside.first; limits = c.self.inside.limits } in
    let new : plain.Group g.row.D.Denot = record { journal = c.put_commits.new.journal; entries = c.args.next; first = c.self.inside.first; limits = c.self.inside.limits } in
    let more = subst (λ (w : plain.Group g.row.D.Denot). c.args.next ≡ w.entries ++ map commit_entry commits) (sym c.self.view_is) c.requires.next in
    rw (← c.self.view_is) (waits_with_all old new commits c.self.invariant.first_there more refl)

pub returns-clause-stands : goal.returns-clause-stands
returns-clause-stands g c =
    let commits = c.args.commits.now in
    let old : plain.Group g.row.D.Denot = record { journal = c.self.inside.journal; entries = c.self.inside.snapshot; first = c.self.inside.first; limits = c.self.inside.limits } in
    let new : plain.Group g.row.D.Denot = record { journal = c.put_commits.new.journal; entries = c.args.next; first = c.self.inside.first; limits = c.self.inside.limits } in
    let more = subst (λ (w : plain.Group g.row.D.Denot). c.args.next ≡ w.entries ++ map commit_entry commits) (sym c.self.view_is) c.requires.next in
    let waits = waits_with_all old new commits c.self.invariant.first_there more refl in
    rw (← c.self.view_is) (stands_on g.D.Disk.reads g.D.Disk.may_leave old new waits.journal_same c.put_commits.ensures.journal.stands)
