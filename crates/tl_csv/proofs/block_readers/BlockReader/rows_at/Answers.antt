use Rattle.std.proofs.Common.{◌∙◌}
use Rattle.tl_csv.specs.LentBlocks.{block_at}
use Rattle.tl_csv.proofs.SeparatorLemmas.{first_block}
use Rattle.tl_csv.proofs.block_readers.BlockReader.rows_at.Goals as goal

pub returns-in_ok-put_back-in-Ok-clause-rows : goal.returns-in_ok-put_back-in-Ok-clause-rows
returns-in_ok-put_back-in-Ok-clause-rows c =
    let first = first_block c.in-Some.records (block_at c.args.self.now.blocks c.args.place) c.take.new.self.to_come (rw c.in-Some.is at c.in_ok-records.ensures.before) in
    rw (first.left) at c.in-Ok.ensures.rows

pub returns-in_ok-put_back-in-Err : goal.returns-in_ok-put_back-in-Err
returns-in_ok-put_back-in-Err c =
    let first = first_block c.in-Some.records (block_at c.args.self.now.blocks c.args.place) c.take.new.self.to_come (rw c.in-Some.is at c.in_ok-records.ensures.before) in
    record {
      rows = rw (first.left) at c.in-Err.ensures.rows;
      some = tt;
      distinct = tt;
      same = c.put_back-in-Err.ensures ∙ c.take.ensures.same;
    }
