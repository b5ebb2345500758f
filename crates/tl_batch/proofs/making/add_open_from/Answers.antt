use Rattle.std.proofs.Common.{◌≤◌, length, sym, ◌∙◌, arith}
use Rattle.tl_types.specs.History.{database_of, rows_of}
use Rattle.tl_batch.specs.KeyIndex.{has_row}
use Rattle.tl_batch.proofs.MakingLemmas.{none_before, open_more, open_all}
use Rattle.tl_batch.proofs.making.add_open_from.Goals as goal

pub loop-row-init : goal.loop-row-init
loop-row-init g c = λ x n. c.requires.none x n ∙ sym (none_before c.args.place (rows_of (database_of c.args.store.now) c.args.number) x n)

pub loop-row-preserved : goal.loop-row-preserved
loop-row-preserved g c = open_more (has_row c.loop-row.index) (has_row c.add_key.new.index) c.in_ok-key.key (rows_of (database_of c.args.store.now) c.args.number) c.args.place c.loop-row.row c.in_ok-key.ensures c.loop-row.invariant c.in_ok-add_key.ensures

pub returns : goal.returns
returns g c =
    let all : length (rows_of (database_of c.args.store.now) c.args.number) ≤ c.loop-row.row =
    let a = c.loop-row-test.false in
    let b = c.rows-row-end.ensures.number in
    omega arith in
    λ x n. c.loop-row.invariant x n ∙ open_all (rows_of (database_of c.args.store.now) c.args.number) c.args.place c.loop-row.row x n all
