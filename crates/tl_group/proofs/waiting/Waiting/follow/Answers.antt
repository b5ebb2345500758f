use Rattle.std.proofs.Common.{◌≡◌, ◌∙◌, [], ◌∷◌, ◌++◌, Ok, IsTrue, ap, refl, sym, subst}
use Rattle.tl_types.specs.Entries.{commits_of}
use Rattle.tl_types.specs.History.{database_of, fits}
use Rattle.tl_types.specs.Limits.{standard_limits}
use Rattle.tl_batch.specs.Standing.{StandFor}
use Rattle.tl_batch.proofs.CommitLemmas.{ok_within}
use Rattle.tl_group.specs.Keeping.{commits_in, waiting_commits}
use Rattle.tl_group.specs.Plain as plain
use Rattle.tl_group.proofs.WaitLemmas.{commits_behind, given_back, kept_all, stands_on, waits_with}
use Rattle.tl_group.proofs.waiting.Waiting.follow.Goals as goal

pub returns-in_default-put_commit-clause-err : goal.returns-in_default-put_commit-clause-err
returns-in_default-put_commit-clause-err g c =
    let disks = g.D.Disk in
    let old : plain.Group g.row.D.Denot = record { journal = c.self.inside.journal; entries = c.self.inside.snapshot; first = c.self.inside.first; limits = c.self.inside.limits } in
    rw (← c.self.view_is) (given_back disks.reads disks.may_leave disks.moment disks.left_since disks.faults old c.put_commit.new.journal c.into_disk-in_default-put_commit.result c.into_disk-in_default-put_commit.ensures c.put_commit.ensures.journal)

pub follow-requires-2-clause-fit : goal.follow-requires-2-clause-fit
follow-requires-2-clause-fit g c =
    let fit = subst (λ (w : plain.Group g.row.D.Denot). IsTrue (fits w.limits (database_of (commits_in w)) c.args.commit.now)) (sym c.self.view_is) c.requires.fit in
    ok_within c.self.inside.limits standard_limits (database_of (commits_of c.self.inside.snapshot)) (Ok c.args.commit.now) fit c.self.invariant.within

pub returns-in_default-follow-clause-err : goal.returns-in_default-follow-clause-err
returns-in_default-follow-clause-err g c =
    let disks = g.D.Disk in
    let old : plain.Group g.row.D.Denot = record { journal = c.self.inside.journal; entries = c.self.inside.snapshot; first = c.self.inside.first; limits = c.self.inside.limits } in
    rw (← c.self.view_is) (given_back disks.reads disks.may_leave disks.moment disks.left_since disks.faults old c.put_commit.new.journal c.into_disk-in_default-follow.result c.into_disk-in_default-follow.ensures c.put_commit.ensures.journal)

pub invariant_of-result : goal.invariant_of-result
invariant_of-result g c =
    let kept = c.self.invariant in
    let old : plain.Group g.row.D.Denot = record { journal = c.self.inside.journal; entries = c.self.inside.snapshot; first = c.self.inside.first; limits = c.self.inside.limits } in
    let new : plain.Group g.row.D.Denot = record { journal = c.put_commit.new.journal; entries = c.in-Ok-follow.snapshot; first = c.self.inside.first; limits = c.self.inside.limits } in
    kept_all c.self.inside.body c.put_commit.new.self old new (c.args.commit.now ∷ []) kept c.in-Ok-follow.ensures refl refl c.put_commit.ensures.journal.broken_same (c.in-Ok-put_commit.ensures.body (waiting_commits old) (kept.written, kept.body_is)) c.put_commit.ensures.spare

pub returns-clause-keys : goal.returns-clause-keys
returns-clause-keys g c =
    let commit = c.args.commit.now in
    let stands = subst (λ cs. StandFor c.follow.new.self (database_of (cs ++ commit ∷ []))) c.store.ensures c.in-Ok.ensures.ok in
    subst (λ cs. StandFor c.follow.new.self (database_of cs)) (sym (ap commits_of c.in-Ok-follow.ensures ∙ commits_behind c.self.inside.snapshot (commit ∷ []))) stands

pub returns-clause-ok : goal.returns-clause-ok
returns-clause-ok g c =
    let old : plain.Group g.row.D.Denot = record { journal = c.self.inside.journal; entries = c.self.inside.snapshot; first = c.self.inside.first; limits = c.self.inside.limits } in
    let new : plain.Group g.row.D.Denot = record { journal = c.put_commit.new.journal; entries = c.in-Ok-follow.snapshot; first = c.self.inside.first; limits = c.self.inside.limits } in
    rw (← c.self.view_is) (waits_with old new c.args.commit.now c.self.invariant.first_there c.in-Ok-follow.ensures refl)

pub returns-clause-stands : goal.returns-clause-stands
returns-clause-stands g c =
    let old : plain.Group g.row.D.Denot = record { journal = c.self.inside.journal; entries = c.self.inside.snapshot; first = c.self.inside.first; limits = c.self.inside.limits } in
    let new : plain.Group g.row.D.Denot = record { journal = c.put_commit.new.journal; entries = c.in-Ok-follow.snapshot; first = c.self.inside.first; limits = c.self.inside.limits } in
    let waits = waits_with old new c.args.commit.now c.self.invariant.first_there c.in-Ok-follow.ensures refl in
    rw (← c.self.view_is) (stands_on g.D.Disk.reads g.D.Disk.may_leave old new waits.journal_same c.put_commit.ensures.journal.stands)
