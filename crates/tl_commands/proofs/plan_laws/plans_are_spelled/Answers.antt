use Rattle.tl_commands.proofs.PlanLemmas.{named_plan, spelled_reading, fault_reading, refused_reading}
use Rattle.tl_commands.proofs.plan_laws.plans_are_spelled.Goals as goal

pub returns-clause-named : goal.returns-clause-named
returns-clause-named c = named_plan

pub returns-clause-spelled : goal.returns-clause-spelled
returns-clause-spelled c = spelled_reading

pub returns-clause-fault : goal.returns-clause-fault
returns-clause-fault c = fault_reading

pub returns-clause-refused : goal.returns-clause-refused
returns-clause-refused c = refused_reading
