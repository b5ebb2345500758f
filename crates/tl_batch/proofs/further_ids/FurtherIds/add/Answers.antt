use Rattle.std.proofs.Common.{◌||◌, nat_eq, Some, is_some, refl, sym, ap, ◌∙◌}
use Rattle.tl_batch.specs.KeyIndex.{Changes, is_among_ids}
use Rattle.tl_batch.proofs.KeyIndexLemmas.{copied, found_at, added, kept}
use Rattle.tl_batch.proofs.FollowLemmas.{on_err}
use Rattle.tl_types.specs.History.{has_id}
use Rattle.tl_batch.proofs.further_ids.FurtherIds.add.Goals as goal

pub returns-in_err-add-clause-err : goal.returns-in_err-add-clause-err
returns-in_err-add-clause-err c =
    let change : Changes c.args.key.now (Some c.add.new.self) c.args.self.now (c.get_mut.follows.lender c.add.new.self).entries = copied c.args.key.now c.args.key.now (Some c.add.new.self) c.self.inside.ids.entries c.args.self.now (c.get_mut.follows.lender c.add.new.self).entries refl c.self.view_is (((c.get_mut.follows.holds c.add.new.self).3 (ap is_some (sym c.in-Some.ensures.value))).0) in
    on_err _ c.from_residual-in_err-add.result (kept is_among_ids c.args.key.now (Some c.add.new.self) c.args.self.now (c.get_mut.follows.lender c.add.new.self).entries change (λ n. ap (λ ids. has_id ids n) c.in_err-add.ensures.err ∙ ap (λ o. is_among_ids o n) (found_at c.args.key.now (Some c.in-Some.ids.now) c.self.inside.ids.entries c.args.self.now c.in-Some.ensures.value c.self.view_is)))

pub returns-clause-ok : goal.returns-clause-ok
returns-clause-ok c =
    let change : Changes c.args.key.now (Some c.add.new.self) c.args.self.now (c.get_mut.follows.lender c.add.new.self).entries = copied c.args.key.now c.args.key.now (Some c.add.new.self) c.self.inside.ids.entries c.args.self.now (c.get_mut.follows.lender c.add.new.self).entries refl c.self.view_is (((c.get_mut.follows.holds c.add.new.self).3 (ap is_some (sym c.in-Some.ensures.value))).0) in
    added is_among_ids c.args.key.now (Some c.add.new.self) c.args.self.now (c.get_mut.follows.lender c.add.new.self).entries change c.args.id (λ n. c.in_ok-add.ensures.ok n ∙ ap (λ o. nat_eq n c.args.id || is_among_ids o n) (found_at c.args.key.now (Some c.in-Some.ids.now) c.self.inside.ids.entries c.args.self.now c.in-Some.ensures.value c.self.view_is))
