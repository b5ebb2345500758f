use Rattle.std.proofs.Common.{Some}
use Rattle.tl_batch.proofs.OpeningLemmas.{part_opened, part_pushed}
use Rattle.tl_batch.proofs.opening.push_part.Goals as goal

pub new-requires : goal.new-requires
new-requires g c = part_opened c.args.table.now.rows c.args.row c.new-cells.result c.push_cells.new.cells (Some c.args.part) c.requires c.new-cells.ensures c.in_ok-push_cells.ensures.value c.in_ok-push_cells.ensures.number

pub returns : goal.returns
returns g c = λ r there. part_pushed r.cells c.new-cells.result c.push_cells.new.cells c.args.part c.new.result c.args.opens.now.items c.push.new.self.items c.new-cells.ensures (c.in_ok-push_cells.ensures.value r there) c.new.ensures c.in_ok-push.ensures.items
