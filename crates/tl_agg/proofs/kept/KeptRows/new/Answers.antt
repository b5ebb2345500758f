use Rattle.tl_agg.proofs.StartLemmas.{whole_tested}
use Rattle.tl_agg.proofs.kept.KeptRows.new.Goals as goal

pub invariant_of-result : goal.invariant_of-result
invariant_of-result g c = whole_tested c.args.rows.now c.count.result c.rows.result c.count.ensures.count c.rows.ensures
