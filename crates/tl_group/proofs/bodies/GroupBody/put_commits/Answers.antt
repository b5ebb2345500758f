use Rattle.std.proofs.Common.{◌≡◌, ◌+◌, ◌∷◌, ◌++◌, ◌∙◌, [], take, ap, sym}
use Rattle.std.proofs.lemmas.List.{take_more}
use Rattle.tl_group.proofs.RoomLemmas.{puts_none, puts_on, takes_none, takes_on}
use Rattle.tl_group.proofs.bodies.GroupBody.put_commits.Goals as goal

pub loop-commit-init : goal.loop-commit-init
loop-commit-init g c =
    let disk = c.args.journal.now.disk in
    record {
      puts = puts_none c.args.self.now.bytes;
      spare = c.requires.spare;
      journal = takes_none g.D.Disk.reads g.D.Disk.may_leave g.D.Disk.moment g.D.Disk.left_since g.D.Disk.faults c.args.journal.now (g.met.D.Disk.only_now disk);
    }

pub returns-in_err-put_commit-clause-journal : goal.returns-in_err-put_commit-clause-journal
returns-in_err-put_commit-clause-journal g c =
    let disks = g.D.Disk in
    takes_on disks.reads disks.may_leave disks.moment disks.left_since disks.faults c.args.journal.now c.loop-commit.journal c.put_commit.new.journal c.loop-commit.invariant.journal c.put_commit.ensures.journal

pub loop-commit-preserved : goal.loop-commit-preserved
loop-commit-preserved g c =
    let disks = g.D.Disk in
    let was = c.loop-commit.invariant in
    let commits = c.args.commits.now in
    let i = c.loop-commit.commit-index in
    let commit = c.commit-item.result in
    let grown : take (i + 1) commits ≡ take i commits ++ commit ∷ [] = take_more commits i commit c.loop-commit-test.true ∙ ap (λ x. take i commits ++ x ∷ []) (sym c.commit-item.is) in
    record {
      puts = puts_on (take i commits) (commit ∷ []) (take (i + 1) commits) c.args.self.now.bytes c.loop-commit.self.bytes c.put_commit.new.self.bytes was.puts c.in_ok-put_commit.ensures.body grown;
      spare = c.put_commit.ensures.spare;
      journal = takes_on disks.reads disks.may_leave disks.moment disks.left_since disks.faults c.args.journal.now c.loop-commit.journal c.put_commit.new.journal was.journal c.put_commit.ensures.journal;
    }
