use Rattle.std.proofs.Common.{◌∙◌}
use Rattle.tl_log.specs.Listing.{tables_text}
use Rattle.tl_log.specs.declared.top.ListStatus.TheVariants as status
use Rattle.tl_log.proofs.EndingLemmas.{writes_same}
use Rattle.tl_log.proofs.top.list_tables.Goals as goal

pub returns-in-Ok-clause-all : goal.returns-in-Ok-clause-all
returns-in-Ok-clause-all g c =
    writes_same c.as_slice.result.now (tables_text c.args.store.now) status.Done _ _ _ _ _ (c.as_slice.ensures ∙ c.in-Ok.ensures) c.write_text.ensures.all
