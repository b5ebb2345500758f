-- Bytes that are no journal's are damaged, and what was read is durable.
use Rattle.std.proofs.Common.{inl}
use Rattle.tl_replay.proofs.ReadLemmas.{bytes_damaged}
use Rattle.tl_replay.proofs.opening.begin.Goals as goal

pub returns-in-Err-clause-damaged : goal.returns-in-Err-clause-damaged
returns-in-Err-clause-damaged g c =
    λ at e. bytes_damaged c.args.limits.now at (g.D.Disk.reads c.args.disk) (c.in-Err.ensures.damaged at e).1

pub returns-in-Err-clause-no_memory : goal.returns-in-Err-clause-no_memory
returns-in-Err-clause-no_memory g c = λ e. inl (c.in-Err.ensures.no_memory e)
