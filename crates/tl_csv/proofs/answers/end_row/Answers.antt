use Rattle.tl_csv.proofs.WritingLemmas.{one_row}
use Rattle.tl_csv.proofs.answers.end_row.Goals as goal

pub returns-clause-row : goal.returns-clause-row
returns-clause-row c = λ bytes row q. one_row c.args.writer.now c.end_record.new.self bytes row c.in-Ok.ensures.bytes q

pub returns-clause-writing : goal.returns-clause-writing
returns-clause-writing c = λ bytes row q. record {
  setup = rw c.in-Ok.ensures.same q.setup;
  fields = c.in-Ok.ensures.fields;
  wrote = c.in-Ok.ensures.wrote;
}
