use Rattle.std.proofs.Common.{Some, None, ap, ◌∙◌}
use Rattle.tl_types.specs.History.{has_name}
use Rattle.std.specs.List.{position_from}
use Rattle.tl_store.specs.Kept.{table_of, Kept}
use Rattle.tl_store.proofs.LogLemmas.{found_number}
use Rattle.tl_store.proofs.store.Store.find.Goals as goal

pub returns-in-Some : goal.returns-in-Some
returns-in-Some c =
    found_number c.args.name.now c.self.inside.tables.items c.self.inside.log c.self.inside.stamps c.args.self.now (Some c.in-Some.number) c.self.invariant c.self.view_is
    (c.in-Some.ensures.first ∙ ap (position_from (λ (k : Kept). has_name c.args.name.now (table_of k)) 0) c.as_slice.ensures.value)

pub returns-in-None : goal.returns-in-None
returns-in-None c =
    found_number c.args.name.now c.self.inside.tables.items c.self.inside.log c.self.inside.stamps c.args.self.now None c.self.invariant c.self.view_is
    (c.in-None.ensures.first ∙ ap (position_from (λ (k : Kept). has_name c.args.name.now (table_of k)) 0) c.as_slice.ensures.value)
