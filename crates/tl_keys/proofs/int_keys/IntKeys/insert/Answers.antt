use Rattle.std.proofs.Common.{ap, ◌∙◌, w64}
use Rattle.std.proofs.lemmas.Int.{to_z-of_z}
use Rattle.tl_keys.specs.Keys.{int_number}
use Rattle.tl_keys.proofs.SmallLemmas.{more_small, has_number}
use Rattle.tl_keys.proofs.int_keys.IntKeys.insert.Goals as goal

pub invariant_of-self-2 : goal.invariant_of-self-2
invariant_of-self-2 c =
    let whole = to_z-of_z w64 c.args.key c.ranges.key in
    let old = c.self.inside.numbers.entries in
    let new = c.insert.new.self.entries in
    let none = ap (λ ints. int_number ints c.args.key) c.self.view_is ∙ c.requires.none in
    let more = rw whole at c.in_ok-insert.ensures.updates.0 in
    let lists = rw whole at c.put_small.ensures in
    lists new (has_number old new c.args.number c.args.key more) (more_small c.make_list.new.small.items old new c.args.number c.args.key none more (c.make_list.ensures old c.self.invariant))
