use Rattle.std.proofs.Common.{◌≤◌, arith, length}
use Rattle.tl_script.proofs.LoadLemmas.{block_fails}
use Rattle.tl_script.proofs.loading.take_block.Goals as goal

pub returns-in-Err-clause-fails : goal.returns-in-Err-clause-fails
returns-in-Err-clause-fails g c =
    let few : length c.reading.pending ≤ c.args.most = omega (arith, c.len.ensures, c.reading-test.true) in
    block_fails c.args.most _ _ _ c.reading.pending c.refill.new.self c.in-Err.error few c.reading.invariant.order c.in-Err.ensures.refills
