use Rattle.std.proofs.Common.{rules}
use Rattle.tl_rows.proofs.PackedLemmas.{one_more, one_more_within, same_fields}
use Rattle.tl_rows.proofs.packed.PackedFields.push.Goals as goal

pub returns-in_err-packed-clause-err : goal.returns-in_err-packed-clause-err
returns-in_err-packed-clause-err c =
    let s = c.self.inside in
    rw (← c.self.view_is, same_fields s.texts.items c.pack.new.texts.items s.wide.items c.pack.new.wide.items s.fields.items c.pack.ensures.texts c.pack.ensures.wide c.self.invariant) (search rules)

pub returns-in_err-push_packed-clause-err : goal.returns-in_err-push_packed-clause-err
returns-in_err-push_packed-clause-err c =
    let s = c.self.inside in
    rw (← c.self.view_is, c.in_err-push_packed.ensures.err, same_fields s.texts.items c.pack.new.texts.items s.wide.items c.pack.new.wide.items s.fields.items c.pack.ensures.texts c.pack.ensures.wide c.self.invariant) (search rules)

pub invariant_of-self-2 : goal.invariant_of-self-2
invariant_of-self-2 c =
    let s = c.self.inside in
    rw c.in_ok-push_packed.ensures.ok (one_more_within s.texts.items c.pack.new.texts.items s.wide.items c.pack.new.wide.items s.fields.items c.in_ok-packed.packed _ c.pack.ensures.texts c.pack.ensures.wide c.in_ok-packed.ensures.packed c.self.invariant)

pub returns-clause-ok : goal.returns-clause-ok
returns-clause-ok c =
    let s = c.self.inside in
    rw (← c.self.view_is, c.in_ok-push_packed.ensures.ok) (one_more s.texts.items c.pack.new.texts.items s.wide.items c.pack.new.wide.items s.fields.items c.in_ok-packed.packed _ c.pack.ensures.texts c.pack.ensures.wide c.in_ok-packed.ensures.packed c.self.invariant)
