use Rattle.std.proofs.Common.{rules, ◌∙◌}
use Rattle.tl_log.proofs.WritingLemmas.{part_then, sends_then}
use Rattle.tl_log.proofs.rows.write_lines.Goals as goal

pub pieces-preserved : goal.pieces-preserved
pieces-preserved g c = record {
  within = search rules;
  sends = sends_then _ _ _ _ _ _ c.pieces.invariant.sends c.in-Ok.ensures.sends;
  sure = c.in-Ok.ensures.sure ∙ c.pieces.invariant.sure;
}

pub returns-in-Err-clause-part : goal.returns-in-Err-clause-part
returns-in-Err-clause-part g c =
    part_then _ _ _ _ _ c.pieces.invariant.sends c.in-Err.ensures.part
