-- A commit is made ready and then written.
use Rattle.tl_history.proofs.StandingLemmas.{moments_still}
use Rattle.tl_history.proofs.WriteLemmas.{commit_ok, commit_err, moments_of_two}
use Rattle.tl_history.proofs.histories.History.commit.Goals as goal

pub returns-clause-ok : goal.returns-clause-ok
returns-clause-ok g c =
    commit_ok g.D.Disk.reads g.D.Disk.may_leave g.D.Disk.faults c.args.author c.args.batch c.args.self.now c.draft.new.self c.write.new.self c.in_ok-draft.draft.commit c.write.result
    c.draft.ensures.room c.in_ok-draft.ensures.ok.whole c.in_ok-draft.ensures.resolves c.write.ensures.ok

pub returns-clause-err : goal.returns-clause-err
returns-clause-err g c =
    commit_err g.D.Disk.reads g.D.Disk.may_leave g.D.Disk.faults c.args.author c.args.batch c.args.self.now c.draft.new.self c.write.new.self c.in_ok-draft.draft.commit c.write.result
    c.draft.ensures.room c.draft.ensures.settings.1 c.in_ok-draft.ensures.ok.whole c.in_ok-draft.ensures.resolves c.write.ensures.err

pub returns-in_err-draft-clause-any_moment : goal.returns-in_err-draft-clause-any_moment
returns-in_err-draft-clause-any_moment g c =
    λ stands. moments_still g.D.Disk.reads g.D.Disk.may_leave g.D.Disk.moment g.D.Disk.left_since c.args.self.now c.draft.new.self.journal.disk c.draft.new.self.entries stands
    c.draft.ensures.room.entries_same c.draft.ensures.any_moment

pub returns-clause-any_moment : goal.returns-clause-any_moment
returns-clause-any_moment g c =
    λ stands. moments_of_two g.D.Disk.reads g.D.Disk.may_leave g.D.Disk.moment g.D.Disk.left_since c.args.self.now c.draft.new.self c.write.new.self c.draft.ensures.room.entries_same c.in_ok-draft.ensures.ok.whole stands
    c.draft.ensures.any_moment (c.write.ensures.any_moment (c.draft.ensures.stands stands))
