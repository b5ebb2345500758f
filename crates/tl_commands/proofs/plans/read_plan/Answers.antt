use Rattle.std.proofs.Common.{length}
use Rattle.tl_types.specs.History.{database_of}
use Rattle.tl_commands.proofs.PlanLemmas.{spelled_plan, faulty_plan}
use Rattle.tl_commands.proofs.plans.read_plan.Goals as goal

pub returns-in_ok-read-in-Ok-clause-reads : goal.returns-in_ok-read-in-Ok-clause-reads
returns-in_ok-read-in-Ok-clause-reads c =
    spelled_plan (database_of c.args.store.now) (length c.args.store.now) c.args.text.now c.in-Ok.statement c.in_ok-read-in-Ok.read c.in-Ok.ensures.found c.in_ok-read-in-Ok.ensures.reads

pub returns-in_ok-text_refusal-in-Err-clause-reads : goal.returns-in_ok-text_refusal-in-Err-clause-reads
returns-in_ok-text_refusal-in-Err-clause-reads c =
    faulty_plan (database_of c.args.store.now) (length c.args.store.now) c.args.text.now c.in-Err.fault c.in_ok-text_refusal-in-Err.field-0 c.in-Err.ensures.fault c.in_ok-text_refusal-in-Err.ensures.told c.in_ok-text_refusal-in-Err.ensures.why
