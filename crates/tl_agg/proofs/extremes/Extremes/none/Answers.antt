use Rattle.std.proofs.Common.{pos}
use Rattle.tl_agg.specs.Extremes.{end_of}
use Rattle.tl_agg.proofs.extremes.Extremes.none.Goals as goal

pub returns-clause-stands : goal.returns-clause-stands
returns-clause-stands c = λ column. c.none-extreme.ensures.stands (pos c.args.since) column end_of
