use Rattle.std.proofs.Common.{sym, ap, ◌∙◌}
use Rattle.tl_types.specs.History.{last_moment}
use Rattle.tl_types.specs.Plain as plain
use Rattle.tl_store.proofs.LogLemmas.{stands_for}
use Rattle.tl_store.proofs.store.Store.last_moment.Goals as goal

pub returns : goal.returns
returns c =
    c.last_moment.ensures
    ∙ ap (λ (db : plain.Database). last_moment db.stamps) (sym (stands_for c.self.inside.tables.items c.self.inside.log c.self.inside.stamps c.args.self.now c.self.invariant c.self.view_is))
