use Rattle.std.proofs.Common.{◌&&◌, not, nat_eq, Some, None, is_some, refl, sym, ap, ◌∙◌}
use Rattle.tl_batch.specs.KeyIndex.{Changes, has_further, is_among_ids}
use Rattle.tl_batch.proofs.KeyIndexLemmas.{copied, found_at, removed, none_removed}
use Rattle.tl_batch.proofs.further_ids.FurtherIds.cut.Goals as goal

pub returns-in_default : goal.returns-in_default
returns-in_default c = λ x n. ap (λ es. has_further es x n) (ap (λ m. m.entries) c.get_mut.follows.holds-at-none ∙ c.self.view_is) ∙ none_removed c.args.key.now c.args.id c.args.self.now (found_at c.args.key.now None c.self.inside.ids.entries c.args.self.now c.in_default.ensures.value c.self.view_is) x n

pub returns : goal.returns
returns c =
    let change : Changes c.args.key.now (Some c.remove.new.self) c.args.self.now (c.get_mut.follows.lender c.remove.new.self).entries = copied c.args.key.now c.args.key.now (Some c.remove.new.self) c.self.inside.ids.entries c.args.self.now (c.get_mut.follows.lender c.remove.new.self).entries refl c.self.view_is (((c.get_mut.follows.holds c.remove.new.self).3 (ap is_some (sym c.in-Some.ensures.value))).0) in
    removed is_among_ids c.args.key.now (Some c.remove.new.self) c.args.self.now (c.get_mut.follows.lender c.remove.new.self).entries change c.args.id (λ n. c.remove.ensures n ∙ ap (λ o. not (nat_eq n c.args.id) && is_among_ids o n) (found_at c.args.key.now (Some c.in-Some.ids.now) c.self.inside.ids.entries c.args.self.now c.in-Some.ensures.value c.self.view_is))
