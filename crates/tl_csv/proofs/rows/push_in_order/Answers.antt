use Rattle.std.proofs.Common.{rules, ◌≡◌, ◌+◌, length, take, drop, arith, ap}
use Rattle.csv.specs.Records.{fields_of}
use Rattle.tl_csv.specs.Block.{cell_at}
use Rattle.tl_csv.proofs.RowLemmas.{beside_number, front_number, split_within}
use Rattle.tl_csv.proofs.rows.push_in_order.Goals as goal

pub split_at-requires : goal.split_at-requires
split_at-requires c = split_within c.args.layout.now c.columns.result.now c.kinds.result.now c.columns.ensures.value c.kinds.ensures.value c.kinds.ensures.kept c.requires.order

pub period_beside-requires : goal.period_beside-requires
period_beside-requires c =
    let layout = c.args.layout.now in
    let f = cell_at c.args.limits.now c.args.rec in
    let front : c.split_at.result.0.now ≡ take (length layout.columns) layout.kinds = search rules in
    let behind : c.split_at.result.1.now ≡ drop (length layout.columns) layout.kinds = search rules in
    let place : length c.columns-2.result.now ≡ length layout.columns = ap length c.columns-2.ensures.value in
    let number = beside_number f f layout c.split_at.result.0.now c.split_at.result.1.now (fields_of c.args.row.now) (length c.columns-2.result.now) c.read_front.new.cells c.read_behind.new.cells.items c.kinds.ensures.kept c.requires.order c.requires.number front behind place c.in_ok-read_front.ensures c.in_ok-read_behind.ensures in
    let whole : length c.as_slice.result.now + length c.as_slice-2.result.now ≡ length layout.kinds = rw (c.as_slice.ensures, c.as_slice-2.ensures.value) number in
    rw (whole, c.period.ensures.value) c.kinds.ensures.kept.period

pub new-requires : goal.new-requires
new-requires c =
    let layout = c.args.layout.now in
    let f = cell_at c.args.limits.now c.args.rec in
    let front : c.split_at.result.0.now ≡ take (length layout.columns) layout.kinds = search rules in
    let number = front_number f layout c.split_at.result.0.now (fields_of c.args.row.now) c.read_front.new.cells c.kinds.ensures.kept c.requires.order c.requires.number front c.in_ok-read_front.ensures in
    let kept = c.kinds.ensures.kept in
    record { some = omega (arith, number, kept.some); few = omega (arith, number, kept.few) }
