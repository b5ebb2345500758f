-- The checkpoint of what was seen is that of what is written, and the committer keeps what it kept.
use Rattle.std.proofs.Common.{rules, ◌++◌, ◌∷◌, [], sym, ap, ◌∙◌}
use Rattle.tl_index.specs.Snapshots.{mark_entry}
use Rattle.tl_engine.proofs.TendLemmas.{may_mark, committing_mark}
use Rattle.tl_engine.proofs.committer.Committer.mark.Goals as goal

pub marked_copies-requires-clause-table : goal.marked_copies-requires-clause-table
marked_copies-requires-clause-table g c =
    (may_mark c.args.pass.now.seen c.self.inside.publisher.writer.written c.snapshot-2.result.now c.args.checkpoint c.show.ensures.begins
    (c.snapshot-2.ensures.value ∙ c.self.invariant.2.entries_are) (rw c.snapshot-2.ensures.value c.if-has_break.ensures.legal) c.requires.checkpoint).there

pub marked_copies-requires-clause-version : goal.marked_copies-requires-clause-version
marked_copies-requires-clause-version g c =
    (may_mark c.args.pass.now.seen c.self.inside.publisher.writer.written c.snapshot-2.result.now c.args.checkpoint c.show.ensures.begins
    (c.snapshot-2.ensures.value ∙ c.self.invariant.2.entries_are) (rw c.snapshot-2.ensures.value c.if-has_break.ensures.legal) c.requires.checkpoint).reached

pub marked_copies-requires-clause-checkpoint : goal.marked_copies-requires-clause-checkpoint
marked_copies-requires-clause-checkpoint g c =
    (may_mark c.args.pass.now.seen c.self.inside.publisher.writer.written c.snapshot-2.result.now c.args.checkpoint c.show.ensures.begins
    (c.snapshot-2.ensures.value ∙ c.self.invariant.2.entries_are) (rw c.snapshot-2.ensures.value c.if-has_break.ensures.legal) c.requires.checkpoint).value_is

pub invariant_of-self-2 : goal.invariant_of-self-2
invariant_of-self-2 g c = (
  search rules,
  search rules,
  committing_mark g.J.Named.first_entries g.J.Named.first_count g.J.Named.limits c.self.inside.publisher.writer.written c.publish_uncounted.new.self.writer.written c.self.inside.publisher.book.total c.publish_uncounted.new.self.book.total c.self.inside.history c.take_mark.new.self c.args.checkpoint.table c.args.checkpoint.version
      (c.take_mark.ensures.entries ∙ c.in-Ok.ensures.kept ∙ ap (λ es. es ++ mark_entry c.args.checkpoint.table c.args.checkpoint.version ∷ []) c.snapshot-2.ensures.value)
      (c.publish_uncounted.ensures.written.0 ∙ c.in-Ok.ensures.shown ∙ sym c.take_mark.ensures.entries)
      (ap (λ b. b.total) c.publish_uncounted.ensures.book ∙ ap (λ w. w.book.total) c.show.ensures.same)
      c.take_mark.ensures.settings.1 c.take_mark.ensures.settings.0 c.self.invariant.2,
  λ told. c.take_mark.ensures.stands (c.self.invariant.3 told),
)
