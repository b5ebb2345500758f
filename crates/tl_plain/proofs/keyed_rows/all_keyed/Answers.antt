use Rattle.std.proofs.Common.{◌<◌, ◌+◌, length, take, arith}
use Rattle.std.specs.List.{enumerate_from}
use Rattle.tl_types.proofs.Lists.{enumerate-take}
use Rattle.tl_plain.specs.Keyed.{keyed, row_with_key}
use Rattle.tl_plain.proofs.CollectLemmas.{item_taken, item_passed}
use Rattle.tl_plain.proofs.keyed_rows.all_keyed.Goals as goal
use Rattle.tl_plain.proofs.keyed_rows.all_keyed.Goals.{in-Some+in_ok-push, in_default}

pub loop-id-preserved : goal.loop-id-preserved
loop-id-preserved c =
    let rows = c.args.rows.now in
    let i = c.loop-id.id in
    let row = c.index-rows-id.result in
    let here : i < length rows = omega arith in
    let grown = enumerate-take rows i row here c.index-rows-id.is in
    elim c.match-keyed_row.branch [
      | in-Some+in_ok-push w ↦
          item_taken row_with_key (keyed c.args.column) c.loop-id.all.items c.match-keyed_row.all.items (enumerate_from 0 (take i rows)) (enumerate_from 0 (take (i + 1) rows)) w.in-Some.keyed (i, row) (cc (w.all-is, w.in_ok-push.ensures.items)) grown w.in-Some.ensures c.loop-id.invariant
      | in_default w ↦
          rw w.all-is (item_passed row_with_key (keyed c.args.column) c.loop-id.all.items (enumerate_from 0 (take i rows)) (enumerate_from 0 (take (i + 1) rows)) (i, row) grown w.in_default.ensures c.loop-id.invariant)
    ]
