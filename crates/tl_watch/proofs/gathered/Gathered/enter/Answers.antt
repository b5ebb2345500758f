use Rattle.std.proofs.Common.{◌≡◌, ◌++◌, ◌∷◌, [], true, w64, subst}
use Rattle.std.specs.Prelude.{◌+ℤ◌}
use Rattle.std.proofs.lemmas.Int.{to_z-of_z}
use Rattle.tl_running.specs.Standing.{is_ordered}
use Rattle.tl_watch.proofs.GatherLemmas.{gathers_number}
use Rattle.tl_watch.proofs.gathered.Gathered.enter.Goals as goal

pub returns : goal.returns
returns c =
    let whole = to_z-of_z w64 c.args.number c.ranges.number in
    gathers_number c.self.inside.kind c.self.inside.count c.count_in.new.count c.self.inside.sum c.count_in.new.sum c.args.number c.self.inside.numbers.items c.put_behind.new.numbers.items c.args.self.now c.self.view_is c.count_in.ensures.count
    (subst (λ n. c.count_in.new.sum ≡ c.self.inside.sum +ℤ n) whole c.count_in.ensures.sum)
    (subst (λ n. is_ordered c.self.inside.kind ≡ true → c.put_behind.new.numbers.items ≡ c.self.inside.numbers.items ++ n ∷ []) whole c.in_ok-put_behind.ensures.puts)
