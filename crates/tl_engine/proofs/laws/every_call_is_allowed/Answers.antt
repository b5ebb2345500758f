use Rattle.std.proofs.Common.{List, ap}
use Rattle.tl_core.specs.declared.passes.PassState.{PassState}
use Rattle.tl_engine.proofs.CallLemmas.{begun_still, begun_then, call_steps, start_is, start_is_legal, world_is_legal}
use Rattle.tl_engine.proofs.laws.every_call_is_allowed.Goals as goal

pub returns-clause-world : goal.returns-clause-world
returns-clause-world c = world_is_legal

pub returns-clause-start : goal.returns-clause-start
returns-clause-start c = λ entries passes. ap (λ (ps : List PassState). record { entries = entries; passes = ps }) (start_is entries passes)

pub returns-clause-begins : goal.returns-clause-begins
returns-clause-begins c = start_is_legal

pub returns-clause-steps : goal.returns-clause-steps
returns-clause-steps c = λ limits first_count state call. call_steps state call limits first_count

pub returns-clause-begun : goal.returns-clause-begun
returns-clause-begun c = begun_then

pub returns-clause-kept : goal.returns-clause-kept
returns-clause-kept c = begun_still
