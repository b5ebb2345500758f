use Rattle.std.proofs.Common.{◌∙◌}
use Rattle.tl_outline.proofs.OutlineLemmas.{fits_seen}
use Rattle.tl_outline.proofs.outlines.Outline.fits.Goals as goal

pub returns : goal.returns
returns c = λ db is. c.fits_shown.ensures ∙ fits_seen c.args.limits.now c.args.self.now c.args.commit.now db is
