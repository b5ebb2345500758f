use Rattle.std.proofs.Common.{sym, subst}
use Rattle.tl_types.specs.Legality.{FitInTurn}
use Rattle.tl_types.specs.Limits.{standard_limits}
use Rattle.tl_journal.specs.Image.{ImageStandsOnlyFor}
use Rattle.tl_log.proofs.EndingLemmas.{ends_refused}
use Rattle.tl_log.proofs.top.list_bytes.Goals as goal

pub returns-in-Ok-clause-ends : goal.returns-in-Ok-clause-ends
returns-in-Ok-clause-ends g c =
    c.list_store.ensures.ends c.args.image.items
    (subst (λ s. ImageStandsOnlyFor s c.args.image.items) (sym c.store.ensures) c.in-Ok.ensures.whole)
    (subst (λ s. FitInTurn standard_limits s) (sym c.store.ensures) c.in-Ok.ensures.fitting)

pub returns-in-Err : goal.returns-in-Err
returns-in-Err g c = record {
  ends = ends_refused c.args.listing.now c.args.image.items c.in-Err.fault _ _ _ _ _ (c.in-Err.ensures.refused c.args.listing.now) c.refuse.ensures.all;
  no_source = c.refuse.ensures.no_source;
}
