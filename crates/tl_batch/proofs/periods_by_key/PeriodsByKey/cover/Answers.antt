use Rattle.std.proofs.Common.{◌∙◌}
use Rattle.std.specs.Option.{option_map}
use Rattle.tl_batch.proofs.HoldLemmas.{found_is}
use Rattle.tl_batch.proofs.periods_by_key.PeriodsByKey.cover.Goals as goal

pub returns : goal.returns
returns c = c.new.ensures ∙ found_is c.args.key.now c.self.inside.covers.entries c.args.self.now (option_map (λ m. m.now) c.get.result) c.get.ensures.value c.self.view_is
