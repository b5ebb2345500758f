use Rattle.std.proofs.Common.{[], fold, ap, ◌∙◌}
use Rattle.std.specs.Borrow.{Bor}
use Rattle.std.proofs.lemmas.List.Filters.{dedup_is}
use Rattle.tl_types.specs.declared.cells.Cell.{Cell}
use Rattle.tl_types.specs.contracts.cells.CellPartialEq.TheImpl as same
use Rattle.tl_query.specs.Ordered.{with_value}
use Rattle.tl_query.proofs.CellOrder.{eq_is}
use Rattle.tl_plain.proofs.ValueLemmas.{values_left}
use Rattle.tl_plain.proofs.values.values_of.Goals as goal

pub returns : goal.returns
returns c =
    let left = dedup_is (λ (x y : Bor Cell). same.eq-value.it x.now y.now) c.sort.new.self.items c.dedup.new.self.items c.dedup.ensures.filtered in
    values_left (λ (x : Bor Cell). x.now) (λ x y. same.eq-value.it x.now y.now) (λ x y. eq_is x.now y.now) c.in_ok-values.values.items c.sort.new.self.items c.dedup.new.self.items c.sort.ensures.permutation c.in_ok-sort.ensures.sorted left ∙ ap (fold with_value []) c.in_ok-values.ensures
