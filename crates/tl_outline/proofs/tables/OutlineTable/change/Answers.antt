use Rattle.std.proofs.Common.{length, ap}
use Rattle.tl_outline.proofs.OutlineLemmas.{rows_within, rows_changed}
use Rattle.tl_outline.proofs.tables.OutlineTable.change.Goals as goal

pub close_rows-requires : goal.close_rows-requires
close_rows-requires c =
    let t = c.self.inside in
    rows_within t.schema t.floor (length c.opens.result.now) t.current.items c.open_rows.new.current.items c.closes.result.now c.args.self.now c.args.change.now c.self.view_is c.requires c.closes.ensures.value c.in_ok-open_rows.ensures.ok

pub returns-clause-ok : goal.returns-clause-ok
returns-clause-ok c =
    let t = c.self.inside in
    rows_changed t.schema t.floor (length c.opens.result.now) t.current.items c.open_rows.new.current.items c.close_rows.new.current.items c.closes.result.now c.args.self.now c.args.change.now c.self.view_is c.requires c.closes.ensures.value c.in_ok-open_rows.ensures.ok (ap length c.opens.ensures.value) c.close_rows.ensures
