use Rattle.std.proofs.Common.{◌≡◌, length, rules, Ok}
use Rattle.std.specs.List.{zip}
use Rattle.csv.specs.Records.{fields_of}
use Rattle.tl_csv.specs.Faults.{each_from}
use Rattle.tl_csv.specs.Block.{cell_at}
use Rattle.tl_csv.proofs.RowLemmas.{as_many_cells}
use Rattle.tl_csv.proofs.rows.push_in_other_order.Goals as goal

pub push_row_with-requires : goal.push_row_with-requires
push_row_with-requires c =
    let read : each_from (cell_at c.args.limits.now c.args.rec) 0 (zip c.args.layout.now.kinds (fields_of c.args.row.now)) ≡ Ok c.read_behind.new.cells.items = search rules in
    let number : length (fields_of c.args.row.now) ≡ length c.args.layout.now.kinds = search rules in
    let cells : c.as_mut_slice.result.now ≡ c.read_behind.new.cells.items = search rules in
    as_many_cells (cell_at c.args.limits.now c.args.rec) c.args.layout.now.kinds (fields_of c.args.row.now) c.read_behind.new.cells.items c.as_mut_slice.result.now number read cells
