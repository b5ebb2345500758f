use Rattle.std.proofs.Common.{Some, ap, sym, ◌∙◌}
use Rattle.tl_types.specs.History.{database_of, rows_of}
use Rattle.tl_batch.proofs.MakingLemmas.{not_open, open_with}
use Rattle.tl_batch.proofs.making.open_key.Goals as goal

pub returns-then-not-is_open : goal.returns-then-not-is_open
returns-then-not-is_open g c = λ x. sym (not_open (rows_of (database_of c.args.store.now) c.args.number) c.args.row c.args.place x (sym c.is_open_row-is_open.ensures ∙ c.if-not-is_open.true))

pub returns : goal.returns
returns g c = λ x. open_with (rows_of (database_of c.args.store.now) c.args.number) c.args.row c.args.place c.in_ok-key.key x (sym c.is_open_row-is_open.ensures ∙ c.if-not-is_open.false) (ap Some c.in_ok-key.ensures ∙ c.cell.ensures.value)
