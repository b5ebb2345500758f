use Rattle.tl_record.proofs.Fields.{changed}
use Rattle.tl_record.proofs.changes.change.Goals as goal

pub new-change-requires : goal.new-change-requires
new-change-requires c =
    rw (c.from_vec.ensures, c.from_vec-2.ensures)
    (changed c.in_ok-table.rest.now c.in_ok-closes.rest.now c.in_ok-closes.closes.items
    c.in_ok-table.table c.in_ok-opens.opens.items c.in_ok-closes.ensures c.in_ok-opens.ensures.few)
