use Rattle.tl_query.proofs.Deciding.{spelled_read, read_spelled, fault_read, read_fault}
use Rattle.tl_jobs.proofs.laws.texts_are_read.Goals as goal

pub returns-clause-spelled : goal.returns-clause-spelled
returns-clause-spelled c = spelled_read

pub returns-clause-read : goal.returns-clause-read
returns-clause-read c = read_spelled

pub returns-clause-fault : goal.returns-clause-fault
returns-clause-fault c = fault_read

pub returns-clause-told : goal.returns-clause-told
returns-clause-told c = read_fault
