use Rattle.std.proofs.Common.{length, ap, ◌∙◌}
use Rattle.tl_batch.specs.Syncing.{unmarked_lines}
use Rattle.tl_batch.proofs.SyncLemmas.{no_marks}
use Rattle.tl_batch.proofs.line_matching.LineMatching.new.Goals as goal

pub returns : goal.returns
returns c = ap (λ ls. record { key = c.args.place; lines = ls }) (ap (unmarked_lines c.args.lines.now) c.in_ok-marks.ensures ∙ no_marks c.args.lines.now (length c.args.lines.now))
