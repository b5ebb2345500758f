use Rattle.std.proofs.Common.{◌+◌, ◌-◌, ◌/◌, ◌∙◌, ap, arith}
use Rattle.std.proofs.lemmas.Option.{IfSome_then}
use Rattle.tl_bits.proofs.SetLemmas.{Shows, lent_len, rows_are, next_member, member_bit, IfNone_then}
use Rattle.tl_bits.proofs.row_sets.RowSet.next.Goals as goal

pub next_bit-requires : goal.next_bit-requires
next_bit-requires g c =
    let s : Shows c.self.inside.rows c.self.inside.words.items c.deref.result.now c.args.self.now =
    record { is = c.self.view_is; lends = c.deref.ensures.value; long = c.self.invariant.0; none = c.self.invariant.1 } in
    let e = lent_len c.self.inside.rows c.self.inside.words.items c.deref.result.now c.args.self.now s in
    let f = rows_are c.self.inside.rows c.self.inside.words.items c.args.self.now c.self.view_is in
    let h = c.self.invariant.2 in
    omega arith

pub returns-clause-found : goal.returns-clause-found
returns-clause-found g c =
    let s : Shows c.self.inside.rows c.self.inside.words.items c.deref.result.now c.args.self.now =
    record { is = c.self.view_is; lends = c.deref.ensures.value; long = c.self.invariant.0; none = c.self.invariant.1 } in
    IfSome_then c.next_bit.result c.next_bit.ensures.found
    (next_member c.self.inside.rows c.self.inside.words.items c.deref.result.now c.args.self.now s c.args.from)

pub returns-clause-none : goal.returns-clause-none
returns-clause-none g c =
    let s : Shows c.self.inside.rows c.self.inside.words.items c.deref.result.now c.args.self.now =
    record { is = c.self.view_is; lends = c.deref.ensures.value; long = c.self.invariant.0; none = c.self.invariant.1 } in
    IfNone_then c.next_bit.result c.next_bit.ensures.none
    (λ free row above _. member_bit c.self.inside.rows c.self.inside.words.items c.deref.result.now c.args.self.now s row ∙ free row above)

pub returns-clause-steps_none : goal.returns-clause-steps_none
returns-clause-steps_none g c =
    let s : Shows c.self.inside.rows c.self.inside.words.items c.deref.result.now c.args.self.now =
    record { is = c.self.view_is; lends = c.deref.ensures.value; long = c.self.invariant.0; none = c.self.invariant.1 } in
    IfNone_then c.next_bit.result c.next_bit.ensures.steps_none
    (λ steps. steps ∙ ap (λ n. c.args.steps.now + (n - c.args.from / 64)) (lent_len c.self.inside.rows c.self.inside.words.items c.deref.result.now c.args.self.now s))
