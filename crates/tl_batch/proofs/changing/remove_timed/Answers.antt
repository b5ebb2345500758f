use Rattle.std.proofs.Common.{sym, ◌∙◌}
use Rattle.tl_batch.specs.Lines.{lines_of}
use Rattle.tl_batch.proofs.CommitLemmas.{keys-open}
use Rattle.tl_batch.proofs.changing.remove_timed.Goals as goal

pub returns : goal.returns
returns g c =
    let closes = c.in_ok-closes.ensures (lines_of c.args.lines.now) c.in_ok-periods.ensures in
    (sym c.in_ok-found.ensures ∙ c.in_default.is, closes, keys-open c.args.table.now.schema c.args.table.now.rows c.args.lines.now c.in_ok-opens.opens.items (c.in_ok-opens.ensures (lines_of c.args.lines.now) c.in_ok-periods.ensures (c.as_slice-ids.ensures ∙ closes)))
