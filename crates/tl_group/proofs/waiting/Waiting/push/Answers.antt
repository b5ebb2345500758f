use Rattle.std.proofs.Common.{◌≤◌, ◌∙◌, [], ◌∷◌, ◌++◌, ap, refl, sym, subst, arith}
use Rattle.tl_types.specs.Entries.{commits_of}
use Rattle.tl_types.specs.History.{database_of}
use Rattle.tl_batch.specs.Standing.{StandFor}
use Rattle.tl_group.specs.Plain as plain
use Rattle.tl_group.proofs.BodyLemmas.{waits_more}
use Rattle.tl_group.proofs.WaitLemmas.{commits_behind, kept_all, waits_with, stands_on}
use Rattle.tl_group.proofs.waiting.Waiting.push.Goals as goal

pub invariant_of-self-2 : goal.invariant_of-self-2
invariant_of-self-2 g c =
    let kept = c.self.invariant in
    let commit = c.args.commit.now in
    let spelled = c.as_slice-2.ensures ∙ c.in_ok-spelled.ensures.record in
    let body = c.put_record.ensures.body _ commit kept.written (c.in_ok-spelled.ensures.fits, spelled) (c.take_room.ensures.bytes ∙ kept.body_is) in
    let room : c.put_record.new.self.room ≤ c.take_room.new.journal.spare = omega (arith, c.put_record.ensures.room, c.take_room.ensures.spare) in
    kept_all _ _ _ _ (commit ∷ []) kept c.in_ok-next.ensures refl refl c.take_room.ensures.journal.broken_same (waits_more _ commit kept.written c.in_ok-spelled.ensures.fits, body) room

pub returns-clause-keys : goal.returns-clause-keys
returns-clause-keys g c =
    let commit = c.args.commit.now in
    let stands = subst (λ cs. StandFor c.follow.new.self (database_of (cs ++ commit ∷ []))) c.store.ensures c.in_ok-follow.ensures.ok in
    subst (λ cs. StandFor c.follow.new.self (database_of cs)) (sym (ap commits_of c.in_ok-next.ensures ∙ commits_behind c.self.inside.snapshot (commit ∷ []))) stands

pub returns-clause-ok : goal.returns-clause-ok
returns-clause-ok g c = rw (← c.self.view_is) (waits_with _ _ c.args.commit.now c.self.invariant.first_there c.in_ok-next.ensures refl)

pub returns-clause-stands : goal.returns-clause-stands
returns-clause-stands g c =
    let old : plain.Group g.row.D.Denot = record { journal = c.self.inside.journal; entries = c.self.inside.snapshot; first = c.self.inside.first; limits = c.self.inside.limits } in
    let new : plain.Group g.row.D.Denot = record { journal = c.take_room.new.journal; entries = c.in_ok-next.next; first = c.self.inside.first; limits = c.self.inside.limits } in
    let waits = waits_with old new c.args.commit.now c.self.invariant.first_there c.in_ok-next.ensures refl in
    rw (← c.self.view_is) (stands_on g.D.Disk.reads g.D.Disk.may_leave old new waits.journal_same c.take_room.ensures.journal.stands)
