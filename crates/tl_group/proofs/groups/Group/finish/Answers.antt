use Rattle.std.proofs.Common.{◌≡◌, ℕ, List, None, Some, subst}
use Rattle.tl_journal.specs.Image.{ImageStandsFor, NoneOrAll}
use Rattle.tl_group.specs.Keeping.{commits_in, journal_commits, waiting_commits}
use Rattle.tl_group.specs.Standing.{DiskStandsForGroup}
use Rattle.tl_group.specs.Plain as plain
use Rattle.tl_group.proofs.groups.Group.finish.Goals as goal

pub returns-clause-all : goal.returns-clause-all
returns-clause-all g c =
    let disks = g.D.Disk in
    subst (λ (w : plain.Group g.row.D.Denot). DiskStandsForGroup disks.reads disks.may_leave w → c.finish.result.faults ≡ None → (image : List ℕ) → disks.may_leave c.finish.result.disk image → ImageStandsFor (commits_in w) image) c.without_keys.ensures c.finish.ensures.all

pub returns-clause-now : goal.returns-clause-now
returns-clause-now g c =
    let disks = g.D.Disk in
    subst (λ (w : plain.Group g.row.D.Denot). DiskStandsForGroup disks.reads disks.may_leave w → (image : List ℕ) → disks.may_leave c.finish.result.disk image → NoneOrAll (journal_commits w) (waiting_commits w) image) c.without_keys.ensures c.finish.ensures.now

pub returns-clause-reads : goal.returns-clause-reads
returns-clause-reads g c =
    let disks = g.D.Disk in
    subst (λ (w : plain.Group g.row.D.Denot). DiskStandsForGroup disks.reads disks.may_leave w → (image : List ℕ) × (disks.reads c.finish.result.disk ≡ Some image) × NoneOrAll (journal_commits w) (waiting_commits w) image) c.without_keys.ensures c.finish.ensures.reads
