use Rattle.std.proofs.Common.{◌+◌, to_z, arith}
use Rattle.std.specs.Prelude.{◌+ℤ◌}
use Rattle.std.specs.Int.{w128}
use Rattle.tl_types.specs.History.{database_of, rows_of}
use Rattle.tl_watch.specs.Sums.{pieces_before, numbers_in}
use Rattle.tl_watch.proofs.SumLemmas.{stored, words_more, words_few, adds_low, adds_high}
use Rattle.tl_watch.proofs.sums.set_sum.Goals as goal

pub loop-i-preserved : goal.loop-i-preserved
loop-i-preserved g c =
    let rows = rows_of (database_of c.args.store.now) c.args.table in
    let a = to_z w128 c.loop-i.sum-bits in
    let r = c.word_sum-sum.result in
    let s = stored a r (record { sfits = c.word_sum-sum.type_inv }) c.loop-i.invariant.low c.loop-i.invariant.high c.word_sum-sum.ensures.low c.word_sum-sum.ensures.high in
    let adds = words_more c.args.column c.loop-i.i c.args.set.now rows a r c.loop-i.invariant.adds c.word_sum-sum.ensures.sum in
    let ns = numbers_in c.args.column (pieces_before (c.loop-i.i + 1) c.args.set.now) (pieces_before (c.loop-i.i + 1) rows) in
    let long = c.requires.long in
    let most = c.requires.few in
    let few = words_few c.args.column (c.loop-i.i + 1) c.args.set.now rows (omega arith) in
    let t = c.loop-i.invariant.steps in
    let u = c.word_sum-sum.ensures.steps in
    rw s (record { adds = adds; low = adds_low ns (a +ℤ r) few adds; high = adds_high ns (a +ℤ r) few adds; steps = omega arith })
