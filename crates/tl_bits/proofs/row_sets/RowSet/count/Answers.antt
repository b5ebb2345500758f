use Rattle.std.proofs.Common.{◌≡◌, ◌∙◌, arith, ap, ◌+◌, ◌≤◌, length, count_by}
use Rattle.std.proofs.lemmas.List.Sums.{count_by-le-length}
use Rattle.tl_bits.proofs.SetLemmas.{Shows, lent_len, rows_are, count_of_set}
use Rattle.tl_bits.proofs.row_sets.RowSet.count.Goals as goal

pub count_bits-requires : goal.count_bits-requires
count_bits-requires g c =
    let s : Shows c.self.inside.rows c.self.inside.words.items c.deref.result.now c.args.self.now =
    record { is = c.self.view_is; lends = c.deref.ensures.value; long = c.self.invariant.0; none = c.self.invariant.1 } in
    let e = lent_len c.self.inside.rows c.self.inside.words.items c.deref.result.now c.args.self.now s in
    let f = rows_are c.self.inside.rows c.self.inside.words.items c.args.self.now c.self.view_is in
    let h = c.self.invariant.2 in
    omega arith

pub returns-clause-count : goal.returns-clause-count
returns-clause-count g c =
    let s : Shows c.self.inside.rows c.self.inside.words.items c.deref.result.now c.args.self.now =
    record { is = c.self.view_is; lends = c.deref.ensures.value; long = c.self.invariant.0; none = c.self.invariant.1 } in
    c.count_bits.ensures.count ∙ count_of_set c.self.inside.rows c.self.inside.words.items c.deref.result.now c.args.self.now s

pub returns-clause-steps : goal.returns-clause-steps
returns-clause-steps g c =
    let s : Shows c.self.inside.rows c.self.inside.words.items c.deref.result.now c.args.self.now =
    record { is = c.self.view_is; lends = c.deref.ensures.value; long = c.self.invariant.0; none = c.self.invariant.1 } in
    c.count_bits.ensures.steps ∙ ap (λ n. c.args.steps.now + n) (lent_len c.self.inside.rows c.self.inside.words.items c.deref.result.now c.args.self.now s)

pub overflow_cast-result : goal.overflow_cast-result
overflow_cast-result g c =
    let s : Shows c.self.inside.rows c.self.inside.words.items c.deref.result.now c.args.self.now =
    record { is = c.self.view_is; lends = c.deref.ensures.value; long = c.self.invariant.0; none = c.self.invariant.1 } in
    let counted : c.count_bits.result ≡ count_by (λ member. member) c.args.self.now =
    c.count_bits.ensures.count ∙ count_of_set c.self.inside.rows c.self.inside.words.items c.deref.result.now c.args.self.now s in
    let most : count_by (λ member. member) c.args.self.now ≤ length c.args.self.now = count_by-le-length (λ member. member) c.args.self.now in
    let rows = rows_are c.self.inside.rows c.self.inside.words.items c.args.self.now c.self.view_is in
    let few = c.self.invariant.2 in
    record { fits = omega arith }
