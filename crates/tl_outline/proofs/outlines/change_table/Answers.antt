use Rattle.tl_outline.specs.Outlines.{outline_changed}
use Rattle.tl_outline.proofs.OutlineLemmas.{change_there, put_at}
use Rattle.tl_outline.proofs.outlines.change_table.Goals as goal

pub returns-clause-ok : goal.returns-clause-ok
returns-clause-ok c =
    let change = c.args.change.now in
    let tables = c.args.tables.now.items in
    put_at tables c.table.result change.table (outline_changed change) c.index_mut-table.result.now c.change.new.self c.table.ensures (change_there change change.table tables c.requires) c.index_mut-table.ensures.value c.in_ok-change.ensures.ok
