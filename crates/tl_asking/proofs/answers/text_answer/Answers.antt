use Rattle.std.proofs.Common.{length}
use Rattle.tl_types.specs.Entries.{commits_of}
use Rattle.tl_types.specs.History.{database_of}
use Rattle.tl_asking.proofs.AnswerLemmas.{spelled_answer, faulty_answer}
use Rattle.tl_asking.proofs.answers.text_answer.Goals as goal

pub returns-in_ok-body-in-Ok : goal.returns-in_ok-body-in-Ok
returns-in_ok-body-in-Ok g c =
    let commits = commits_of c.args.snapshot.now in
    spelled_answer (database_of commits) (length commits) c.args.text.now c.in-Ok.statement c.in_ok-body-in-Ok.body c.in-Ok.ensures.found c.in_ok-body-in-Ok.ensures

pub returns-in_ok-text_refusal-in-Err : goal.returns-in_ok-text_refusal-in-Err
returns-in_ok-text_refusal-in-Err g c =
    let commits = commits_of c.args.snapshot.now in
    faulty_answer (database_of commits) (length commits) c.args.text.now c.in-Err.fault c.in_ok-text_refusal-in-Err.field-0 c.in-Err.ensures.fault c.in_ok-text_refusal-in-Err.ensures.told c.in_ok-text_refusal-in-Err.ensures.why
