use Rattle.std.proofs.Common.{Some, ap, ◌∙◌}
use Rattle.std.specs.List.{list_any}
use Rattle.tl_batch.specs.Covers.{is_covered}
use Rattle.tl_batch.specs.Pieces.{affects_period, periods_with}
use Rattle.std.proofs.Common.{true}
use Rattle.tl_batch.proofs.SwapLemmas.{swapped}
use Rattle.tl_batch.proofs.periods_by_key.affects_rest.Goals as goal

pub returns : goal.returns
returns c = λ lines wholes held full same.
    c.affects_part-affected.ensures wholes full (λ t. ap (is_covered t) c.cover-cover.ensures ∙ same t) ∙ (ap (list_any (λ g. list_any (λ p. affects_period true p g) wholes)) (c.as_slice.ensures ∙ c.in_ok-parts.ensures.lines lines held) ∙ swapped c.args.line.now (periods_with (Some c.args.key.now) lines) wholes c.in_ok-parts.ensures.full (held.full c.args.key.now) full)
