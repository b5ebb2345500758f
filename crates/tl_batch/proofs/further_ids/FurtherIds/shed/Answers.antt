use Rattle.std.proofs.Common.{◌≡◌, ℕ, None, refl, sym, ap, ◌∙◌}
use Rattle.tl_batch.specs.KeyIndex.{Changes, has_further, is_among_ids}
use Rattle.tl_batch.proofs.KeyIndexLemmas.{copied, kept}
use Rattle.tl_batch.proofs.further_ids.FurtherIds.shed.Goals.{in-Some-1, in-None-1}
use Rattle.tl_batch.proofs.further_ids.FurtherIds.shed.Goals as goal

pub returns-then-is_spent : goal.returns-then-is_spent
returns-then-is_spent c =
    let change : Changes c.args.key.now None c.args.self.now c.remove.new.self.entries = copied c.args.key.now c.args.key.now None c.self.inside.ids.entries c.args.self.now c.remove.new.self.entries refl c.self.view_is c.remove.ensures.updates.0 in
    let same : (x : _) (n : ℕ) → has_further c.remove.new.self.entries x n ≡ has_further c.args.self.now x n = kept is_among_ids c.args.key.now None c.args.self.now c.remove.new.self.entries change (λ n. sym (c.is_spent.ensures c.if-is_spent.true n)) in
    elim c.match-remove.branch [ in-Some-1 w ↦ λ x n. ap (λ es. has_further es x n) w.self-is ∙ same x n | in-None-1 w ↦ λ x n. ap (λ es. has_further es x n) w.self-is ∙ same x n ]
