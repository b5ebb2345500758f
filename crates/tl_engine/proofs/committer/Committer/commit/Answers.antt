-- What the answer says, and what the committer keeps.
use Rattle.std.proofs.Common.{rules, ◌≡◌, ◌+◌, Ok, refl, sym, ap, ◌∙◌}
use Rattle.std.proofs.lemmas.Result.{err_from_is_err_and}
use Rattle.tl_engine.specs.Saying.{becomes}
use Rattle.tl_engine.proofs.MatchLemmas.{matches_on}
use Rattle.tl_engine.proofs.CallLemmas.{write_effect}
use Rattle.tl_engine.proofs.SayLemmas.{draft_says, write_says, unwritten_says, keeps_written, nothing_shown, one_more, were_written}
use Rattle.tl_engine.proofs.committer.Committer.commit.Goals as goal

pub draft-requires : goal.draft-requires
draft-requires g c =
    rw c.self.invariant.2.entries_are (matches_on c.args.pass.now.seen c.self.inside.publisher.writer.written c.args.offer.batch c.show.ensures.begins c.requires.known c.requires.matching)

pub returns-in_err-draft-clause-says : goal.returns-in_err-draft-clause-says
returns-in_err-draft-clause-says g c =
    let kept = c.self.invariant.2 in
    let p = err_from_is_err_and c.from_residual.result c.from_residual.ensures.1 in
    let f : p.0 ≡ c.in_err-draft.field-0.0 = search rules in
    let seen : c.show.new.pass.seen ≡ c.self.inside.history.entries = c.show.ensures.seen ∙ sym kept.entries_are in
    rw p.1 (rw f (draft_says g.D.Disk.reads g.D.Disk.may_leave g.D.Disk.faults c.args.offer.author c.args.offer.batch c.self.inside.history c.draft.new.self g.J.Named.limits g.J.Named.first_count c.args.pass.now.seen c.show.new.pass.seen c.args.share.now.amount c.args.share.now.amount c.in_err-draft.field-0.0
    c.in_err-draft.ensures.err kept.limits_are seen (rw kept.entries_are c.show.ensures.begins) refl))

pub returns-in_default-shown_by-clause-says : goal.returns-in_default-shown_by-clause-says
returns-in_default-shown_by-clause-says g c =
    let kept = c.self.invariant.2 in
    let mid : c.draft.new.self.entries ≡ c.self.inside.publisher.writer.written = c.draft.ensures.room.entries_same ∙ kept.entries_are in
    unwritten_says g.D.Disk.faults (becomes g.J.Named.limits c.args.offer.author c.args.offer.batch) g.J.Named.first_count c.draft.new.self c.write-answer.new.self c.in_ok-draft.draft.commit c.args.pass.now.seen c.show.new.pass.seen c.in-Ok.copies.next c.in-Ok.copies.broken c.args.share.now.amount c.args.share.now.amount c.write-answer.result
    c.write-answer.ensures.err (sym c.in_default-shown_by.is ∙ c.shown_by.ensures) (c.show.ensures.seen ∙ sym mid) (rw mid c.show.ensures.begins) refl

pub publish-requires-clause-one_more : goal.publish-requires-clause-one_more
publish-requires-clause-one_more g c =
    let kept = c.self.invariant.2 in
    let d = c.in_ok-draft.ensures.ok in
    let mid : c.draft.new.self.entries ≡ c.show.new.self.writer.written = c.draft.ensures.room.entries_same ∙ (kept.entries_are ∙ sym (ap (λ w. w.writer.written) c.show.ensures.same)) in
    one_more g.D.Disk.faults c.draft.new.self c.write-answer.new.self c.in_ok-draft.draft.commit c.show.new.self.writer.written c.in-Ok.copies.next c.in-Ok.copies.broken c.in-Some.shown c.write-answer.result
    c.write-answer.ensures.err (c.in-Ok.ensures.0 ∙ d.next) (c.in-Ok.ensures.1 ∙ d.broken) (sym c.in-Some.is ∙ c.shown_by.ensures) mid

pub invariant_of-self-2 : goal.invariant_of-self-2
invariant_of-self-2 g c =
    let kept = c.self.invariant.2 in
    let d = c.in_ok-draft.ensures.ok in
    let total : c.publish.new.self.book.total ≡ c.self.inside.publisher.book.total + 1 = c.publish.ensures.counted.0 ∙ ap (λ w. w.book.total + 1) c.show.ensures.same in (
      search rules,
      search rules,
      keeps_written g.D.Disk.faults g.J.Named.first_entries g.J.Named.first_count g.J.Named.limits c.self.inside.publisher.writer.written c.publish.new.self.writer.written c.self.inside.publisher.book.total c.publish.new.self.book.total c.self.inside.history c.draft.new.self c.write-answer.new.self c.in_ok-draft.draft.commit c.in-Ok.copies.next c.in-Ok.copies.broken c.in-Some.shown c.write-answer.result
          c.write-answer.ensures.ok c.write-answer.ensures.err (c.in-Ok.ensures.0 ∙ d.next) (c.in-Ok.ensures.1 ∙ d.broken) (sym c.in-Some.is ∙ c.shown_by.ensures)
          c.publish.ensures.written.0 total c.draft.ensures.room.entries_same (c.write-answer.ensures.settings.1 ∙ c.draft.ensures.settings.1) (c.write-answer.ensures.settings.0 ∙ c.draft.ensures.settings.0) kept,
      λ told. c.write-answer.ensures.stands (c.draft.ensures.stands (c.self.invariant.3 told)),
    )

pub returns-clause-says : goal.returns-clause-says
returns-clause-says g c =
    let kept = c.self.invariant.2 in
    let d = c.in_ok-draft.ensures.ok in
    let mid : c.draft.new.self.entries ≡ c.self.inside.publisher.writer.written = c.draft.ensures.room.entries_same ∙ kept.entries_are in
    let makes : becomes g.J.Named.limits c.args.offer.author c.args.offer.batch c.draft.new.self.entries ≡ Ok c.in_ok-draft.draft.commit =
    ap (λ l. becomes l c.args.offer.author c.args.offer.batch c.draft.new.self.entries) (sym kept.limits_are)
    ∙ (ap (becomes c.self.inside.history.limits c.args.offer.author c.args.offer.batch) c.draft.ensures.room.entries_same ∙ c.in_ok-draft.ensures.resolves) in
    write_says g.D.Disk.faults c.args.offer.author c.args.offer.batch g.J.Named.limits g.J.Named.first_count c.draft.new.self c.write-answer.new.self c.in_ok-draft.draft.commit c.args.pass.now.seen c.publish.new.pass.seen c.in-Ok.copies.next c.in-Ok.copies.broken c.in-Some.shown c.args.share.now.amount c.publish.new.share.amount c.write-answer.result
    c.write-answer.ensures.ok c.write-answer.ensures.err (c.in-Ok.ensures.0 ∙ d.next) (c.in-Ok.ensures.1 ∙ d.broken) (sym c.in-Some.is ∙ c.shown_by.ensures) c.publish.ensures.written.1
    d.whole makes (c.draft.ensures.settings.1 ∙ kept.count_is) (rw mid c.show.ensures.begins) c.publish.ensures.counted.1

pub returns-clause-effect : goal.returns-clause-effect
returns-clause-effect g c =
    let kept = c.self.invariant.2 in
    let d = c.in_ok-draft.ensures.ok in
    let mid : c.draft.new.self.entries ≡ c.self.inside.publisher.writer.written = c.draft.ensures.room.entries_same ∙ kept.entries_are in
    let makes : becomes g.J.Named.limits c.args.offer.author c.args.offer.batch c.draft.new.self.entries ≡ Ok c.in_ok-draft.draft.commit =
    ap (λ l. becomes l c.args.offer.author c.args.offer.batch c.draft.new.self.entries) (sym kept.limits_are)
    ∙ (ap (becomes c.self.inside.history.limits c.args.offer.author c.args.offer.batch) c.draft.ensures.room.entries_same ∙ c.in_ok-draft.ensures.resolves) in
    rw (← c.self.view_is) (write_effect g.D.Disk.faults (becomes g.J.Named.limits c.args.offer.author c.args.offer.batch) g.J.Named.first_count c.draft.new.self c.write-answer.new.self c.in_ok-draft.draft.commit c.self.inside.publisher.writer.written c.publish.new.self.writer.written c.args.pass.now.seen c.publish.new.pass.seen c.in-Ok.copies.next c.in-Ok.copies.broken c.in-Some.shown c.write-answer.result
    c.write-answer.ensures.ok c.write-answer.ensures.err (c.in-Ok.ensures.0 ∙ d.next) (c.in-Ok.ensures.1 ∙ d.broken) (sym c.in-Some.is ∙ c.shown_by.ensures) c.publish.ensures.written.0 (c.publish.ensures.written.1 ∙ sym c.publish.ensures.written.0)
    mid d.whole makes (c.draft.ensures.settings.1 ∙ kept.count_is) c.show.ensures.begins)

pub returns-in_err-draft-clause-were : goal.returns-in_err-draft-clause-were
returns-in_err-draft-clause-were g c =
    λ _.
    were_written g.D.Disk.reads g.D.Disk.may_leave g.J.Named.told g.J.Named.first_entries g.J.Named.first_count g.J.Named.limits c.self.inside.publisher.writer.written c.show.new.pass.seen c.self.inside.publisher.book.total c.self.inside.history
    c.show.ensures.seen c.self.invariant.2 c.self.invariant.3

pub returns-in_default-shown_by-clause-were : goal.returns-in_default-shown_by-clause-were
returns-in_default-shown_by-clause-were g c =
    λ other.
    absurd (other (nothing_shown g.D.Disk.faults c.draft.new.self c.write-answer.new.self c.in_ok-draft.draft.commit c.in-Ok.copies.next c.in-Ok.copies.broken c.write-answer.result
    c.write-answer.ensures.err (sym c.in_default-shown_by.is ∙ c.shown_by.ensures)))

pub returns-clause-were : goal.returns-clause-were
returns-clause-were g c =
    let kept = c.self.invariant.2 in
    let d = c.in_ok-draft.ensures.ok in
    let total : c.publish.new.self.book.total ≡ c.self.inside.publisher.book.total + 1 = c.publish.ensures.counted.0 ∙ ap (λ w. w.book.total + 1) c.show.ensures.same in
    λ _.
    were_written g.D.Disk.reads g.D.Disk.may_leave g.J.Named.told g.J.Named.first_entries g.J.Named.first_count g.J.Named.limits c.publish.new.self.writer.written c.publish.new.pass.seen c.publish.new.self.book.total c.write-answer.new.self
    (c.publish.ensures.written.1 ∙ sym c.publish.ensures.written.0)
    (keeps_written g.D.Disk.faults g.J.Named.first_entries g.J.Named.first_count g.J.Named.limits c.self.inside.publisher.writer.written c.publish.new.self.writer.written c.self.inside.publisher.book.total c.publish.new.self.book.total c.self.inside.history c.draft.new.self c.write-answer.new.self c.in_ok-draft.draft.commit c.in-Ok.copies.next c.in-Ok.copies.broken c.in-Some.shown c.write-answer.result
    c.write-answer.ensures.ok c.write-answer.ensures.err (c.in-Ok.ensures.0 ∙ d.next) (c.in-Ok.ensures.1 ∙ d.broken) (sym c.in-Some.is ∙ c.shown_by.ensures)
    c.publish.ensures.written.0 total c.draft.ensures.room.entries_same (c.write-answer.ensures.settings.1 ∙ c.draft.ensures.settings.1) (c.write-answer.ensures.settings.0 ∙ c.draft.ensures.settings.0) kept)
    (λ told. c.write-answer.ensures.stands (c.draft.ensures.stands (c.self.invariant.3 told)))
