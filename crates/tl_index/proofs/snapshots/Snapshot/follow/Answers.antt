-- The commit fits what is kept, and what the code has made is kept.
use Rattle.std.proofs.Common.{refl}
use Rattle.tl_index.proofs.EntryLemmas.{fits_kept, fitting, applied}
use Rattle.tl_index.proofs.snapshots.Snapshot.follow.Goals as goal

pub timelines_after-requires-clause-fit : goal.timelines_after-requires-clause-fit
timelines_after-requires-clause-fit c =
    fits_kept c.args.self c.self.inside.store c.get.result.now c.self.inside.log c.self.inside.broken c.args.commit.now
    c.self.view_is c.get.ensures c.requires.fit

pub timelines_after-requires-clause-fitting : goal.timelines_after-requires-clause-fitting
timelines_after-requires-clause-fitting c =
    fitting c.self.inside.store c.get.result.now c.self.inside.log c.self.inside.broken c.self.inside.timelines c.self.inside.marks c.self.invariant c.get.ensures

pub follow-requires : goal.follow-requires
follow-requires c =
    fits_kept c.args.self c.self.inside.store c.in_ok-take.field-0 c.self.inside.log c.self.inside.broken c.args.commit.now
    c.self.view_is c.in_ok-take.ensures c.requires.fit

pub invariant_of-result : goal.invariant_of-result
invariant_of-result c =
    (applied c.args.self c.self.inside.store c.self.inside.log c.self.inside.broken c.self.inside.timelines c.self.inside.marks c.args.commit.now
    c.in_ok-take.field-0 c.in_ok-next.next c.in_ok-new.field-0 c.get.result.now c.in_ok-after.after c.in_ok-new-2.field-0 c.self.inside.log c.self.inside.marks
    c.self.invariant c.self.view_is c.requires.whole c.requires.fit c.in_ok-take.ensures c.in_ok-next.ensures c.in_ok-new.ensures c.get.ensures c.in_ok-after.ensures c.in_ok-new-2.ensures refl refl).0

pub returns : goal.returns
returns c =
    (applied c.args.self c.self.inside.store c.self.inside.log c.self.inside.broken c.self.inside.timelines c.self.inside.marks c.args.commit.now
    c.in_ok-take.field-0 c.in_ok-next.next c.in_ok-new.field-0 c.get.result.now c.in_ok-after.after c.in_ok-new-2.field-0 c.self.inside.log c.self.inside.marks
    c.self.invariant c.self.view_is c.requires.whole c.requires.fit c.in_ok-take.ensures c.in_ok-next.ensures c.in_ok-new.ensures c.get.ensures c.in_ok-after.ensures c.in_ok-new-2.ensures refl refl).1
