use Rattle.std.proofs.Common.{length, sym, ap, subst, arith}
use Rattle.std.specs.Int.{w128}
use Rattle.std.proofs.lemmas.Int.{to_z-of_z}
use Rattle.std.proofs.lemmas.List.{length-take}
use Rattle.tl_types.specs.History.{database_of, rows_of}
use Rattle.tl_watch.specs.Sums.{AddsUp, piece, numbers_in}
use Rattle.tl_watch.proofs.SumLemmas.{word_adds, word_few, adds_low, adds_high}
use Rattle.tl_watch.proofs.sums.word_sum.Goals as goal

pub masked_sum-requires-clause-words : goal.masked_sum-requires-clause-words
masked_sum-requires-clause-words g c =
    let is = ap length c.first_word-values.ensures in
    let most = length-take 64 c.ints_from-run.result.now in
    let some = c.ints_from-run.ensures.some in
    omega arith

pub masked_sum-requires-clause-few : goal.masked_sum-requires-clause-few
masked_sum-requires-clause-few g c =
    let is = ap length c.first_word-values.ensures in
    let most = length-take 64 c.ints_from-run.result.now in
    omega arith

pub returns-clause-sum : goal.returns-clause-sum
returns-clause-sum g c =
    let whole = to_z-of_z w128 c.masked_sum.result (record { sfits = c.masked_sum.type_inv }) in
    let rows = rows_of (database_of c.args.store.now) c.args.table in
    let adds = word_adds rows c.args.column c.args.i c.word-word.result c.args.set.now c.ints_from-run.result.now c.first_word-values.result.now c.masked_sum.result c.requires.long c.word-word.ensures.bits c.ints_from-run.ensures.cells c.first_word-values.ensures c.all_short.ensures c.masked_sum.ensures in
    subst (AddsUp (numbers_in c.args.column (piece c.args.i c.args.set.now) (piece c.args.i rows))) (sym whole) adds

pub returns-clause-low : goal.returns-clause-low
returns-clause-low g c =
    let whole = to_z-of_z w128 c.masked_sum.result (record { sfits = c.masked_sum.type_inv }) in
    let rows = rows_of (database_of c.args.store.now) c.args.table in
    let adds = word_adds rows c.args.column c.args.i c.word-word.result c.args.set.now c.ints_from-run.result.now c.first_word-values.result.now c.masked_sum.result c.requires.long c.word-word.ensures.bits c.ints_from-run.ensures.cells c.first_word-values.ensures c.all_short.ensures c.masked_sum.ensures in
    rw whole (adds_low (numbers_in c.args.column (piece c.args.i c.args.set.now) (piece c.args.i rows)) c.masked_sum.result (word_few c.args.column c.args.i (piece c.args.i c.args.set.now) rows) adds)

pub returns-clause-high : goal.returns-clause-high
returns-clause-high g c =
    let whole = to_z-of_z w128 c.masked_sum.result (record { sfits = c.masked_sum.type_inv }) in
    let rows = rows_of (database_of c.args.store.now) c.args.table in
    let adds = word_adds rows c.args.column c.args.i c.word-word.result c.args.set.now c.ints_from-run.result.now c.first_word-values.result.now c.masked_sum.result c.requires.long c.word-word.ensures.bits c.ints_from-run.ensures.cells c.first_word-values.ensures c.all_short.ensures c.masked_sum.ensures in
    rw whole (adds_high (numbers_in c.args.column (piece c.args.i c.args.set.now) (piece c.args.i rows)) c.masked_sum.result (word_few c.args.column c.args.i (piece c.args.i c.args.set.now) rows) adds)
