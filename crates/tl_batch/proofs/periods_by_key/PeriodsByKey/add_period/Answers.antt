use Rattle.std.proofs.Common.{[], None, Some, is_some, refl, sym, ap, ◌∙◌}
use Rattle.tl_batch.specs.Covers.{is_covered}
use Rattle.tl_batch.proofs.HoldLemmas.{changed_at, found_is, period_added}
use Rattle.tl_batch.proofs.periods_by_key.PeriodsByKey.add_period.Goals as goal

pub returns-in_default-clause-held : goal.returns-in_default-clause-held
returns-in_default-clause-held c =
    let same = ap (λ m. m.entries) c.get_mut.follows.holds-at-none ∙ c.self.view_is in
    let none = found_is c.args.key.now c.self.inside.covers.entries c.args.self.now None c.in_default.ensures.value c.self.view_is in
    period_added c.args.key.now c.args.period.from c.args.period.to [] c.in_ok-cover.cover c.args.self.now c.put.new.self none (λ t. ap (is_covered t) c.in_ok-cover.ensures) (rw (sym same) c.in_ok-put.ensures)

pub returns-clause-held : goal.returns-clause-held
returns-clause-held c =
    let there = found_is c.args.key.now c.self.inside.covers.entries c.args.self.now (Some c.in-Some.cover.now) c.in-Some.ensures.value c.self.view_is in
    let put = changed_at c.args.key.now c.args.key.now (Some c.add.new.self) c.self.inside.covers.entries (c.get_mut.follows.lender c.add.new.self).entries c.args.self.now refl (((c.get_mut.follows.holds c.add.new.self).3 (ap is_some (sym c.in-Some.ensures.value))).0) c.self.view_is in
    period_added c.args.key.now c.args.period.from c.args.period.to c.in-Some.cover.now c.add.new.self c.args.self.now (c.get_mut.follows.lender c.add.new.self).entries there c.in_ok-add.ensures put
