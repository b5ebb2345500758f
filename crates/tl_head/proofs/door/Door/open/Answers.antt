use Rattle.std.proofs.Common.{rules, ◌≡◌, List, [], ◌∷◌, length, Some, sym, subst}
use Rattle.std.specs.declared.option.Option.{Option}
use Rattle.atomic_table.specs.Table.{opening}
use Rattle.tl_head.specs.Rule.{KeepsTurns}
use Rattle.tl_head.specs.Views.{writer_view}
use Rattle.tl_head.proofs.StepLemmas.{opens}
use Rattle.tl_head.proofs.door.Door.open.Goals as goal

pub new-requires : goal.new-requires
new-requires g c =
    let e : c.push.new.self.items ≡ Some c.args.value ∷ [] = search rules in
    let k : c.of-key.result.value ≡ c.args.value = search rules in
    let n : c.len-count.result ≡ length (g.V.Published.entries c.args.value) = search rules in
    subst (λ (z : List (Option g.row.V.Denot) × g.row.V.Denot). KeepsTurns g.V.Published.entries (opening (0 ∷ 0 ∷ c.len-count.result ∷ []) z.0 (writer_view (g.V.Published.entries z.1)))) (λ i. (sym e i, sym k i))
    (opens g.V.Published.entries c.len-count.result c.args.value n (search rules))
