use Rattle.std.proofs.Common.{subst}
use Rattle.tl_jobs.specs.declared.readings.JobReading.{JobReading}
use Rattle.tl_jobs.specs.Jobs.{job_of}
use Rattle.tl_session.specs.Statements.{IsLook}
use Rattle.tl_session.proofs.TendingLemmas.{names_done, there_done, look_table}
use Rattle.tl_session.proofs.StatementLemmas.{tells_settled, tells_rows, tells_fault}
use Rattle.tl_session.proofs.statements.answer.Goals as goal

pub returns-in_ok-settled-in-Loads-clause-ok : goal.returns-in_ok-settled-in-Loads-clause-ok
returns-in_ok-settled-in-Loads-clause-ok g c =
    let job = job_of c.args.job.now in
    let version = c.in_ok-version.field-0.version in
    tells_settled job _ version c.in-Loads.batch _ c.args.access.now c.look_at.new.access c.settle.new.access c.requires.own c.in_ok-version.ensures.sees (subst (λ (r : JobReading). IsLook job version r c.look_at.new.access) c.in-Loads.is c.in_ok-version.ensures.look) c.in_ok-settled-in-Loads.ensures.ok

pub returns-in-Query-clause-ok : goal.returns-in-Query-clause-ok
returns-in-Query-clause-ok g c =
    let job = job_of c.args.job.now in
    let version = c.in_ok-version.field-0.version in
    tells_rows job version c.in-Query.answer c.args.access.now c.look_at.new.access c.in_ok-version.ensures.sees (subst (λ (r : JobReading). IsLook job version r c.look_at.new.access) c.in-Query.is c.in_ok-version.ensures.look)

pub returns-in-Fault-clause-ok : goal.returns-in-Fault-clause-ok
returns-in-Fault-clause-ok g c =
    let job = job_of c.args.job.now in
    let version = c.in_ok-version.field-0.version in
    tells_fault job version c.in-Fault.refusal c.args.access.now c.look_at.new.access c.in_ok-version.ensures.sees (subst (λ (r : JobReading). IsLook job version r c.look_at.new.access) c.in-Fault.is c.in_ok-version.ensures.look)

pub returns-in_ok-settled-in-Loads-clause-names : goal.returns-in_ok-settled-in-Loads-clause-names
returns-in_ok-settled-in-Loads-clause-names g c =
    names_done c.in_ok-settled-in-Loads.settled.body c.in_ok-version.field-0.table _ _ c.in_ok-settled-in-Loads.settled.version c.settle.new.access.seen c.in_ok-settled-in-Loads.ensures.ok.names
    (look_table c.look_at.new.access.seen c.in_ok-version.field-0.reading c.in-Loads.batch _ c.in_ok-version.ensures.table c.in-Loads.is) c.if_done-table.ensures

pub returns-in_ok-settled-in-Loads-clause-known : goal.returns-in_ok-settled-in-Loads-clause-known
returns-in_ok-settled-in-Loads-clause-known g c =
    there_done c.in_ok-settled-in-Loads.settled.body c.look_at.new.access.seen c.settle.new.access.seen c.in-Loads.batch c.in_ok-version.field-0.table _ c.in_ok-settled-in-Loads.ensures.ok.later
    (look_table c.look_at.new.access.seen c.in_ok-version.field-0.reading c.in-Loads.batch _ c.in_ok-version.ensures.table c.in-Loads.is) c.if_done-table.ensures
