use Rattle.std.proofs.Common.{ap, ◌∙◌, w64}
use Rattle.std.proofs.lemmas.Int.{to_z-of_z}
use Rattle.tl_types.specs.History.{version_at_moment}
use Rattle.tl_query.specs.Checking.{Times}
use Rattle.tl_check.proofs.times.StoreTimes.at.Goals as goal

pub returns : goal.returns
returns c =
    (rw (to_z-of_z w64 c.args.moment c.ranges.moment) at c.version_at.ensures.value)
    ∙ ap (λ (t : Times). version_at_moment t.now t.stamps c.args.moment) c.self.view_is
