use Rattle.std.proofs.Common.{◌≡◌, ℕ, List, IfOk, Result, Ok, Err, inr}
use Rattle.tl_csv.specs.LentBlocks.{block_at}
use Rattle.tl_types.specs.Entries.{commits_of}
use Rattle.tl_types.specs.declared.commits.Commit.{Commit}
use Rattle.tl_query.specs.declared.ast.Statement.{Statement}
use Rattle.tl_query.specs.Texts.{Spells}
use Rattle.tl_jobs.specs.Reading.{IsReading, statement_reading}
use Rattle.tl_jobs.specs.declared.readings.JobReading.{JobReading}
use Rattle.tl_jobs.proofs.readings.read_job.Goals as goal

-- what is read of a statement is a reading of the text that spells it
spelled : {E : Type 0} (commits : List Commit) (text block : List ℕ) (s : Statement) (r : Result JobReading E) → Spells text s → IfOk r (λ read. read ≡ statement_reading commits s block) → IfOk r (λ read. IsReading commits text block read)
spelled commits text block s (Ok read) spells is = inr (s, spells, is)
spelled commits text block s (Err e) spells is = tt

pub returns-in-Ok-clause-reads : goal.returns-in-Ok-clause-reads
returns-in-Ok-clause-reads g c = spelled (commits_of c.args.snapshot.now) c.args.text.now (block_at c.args.crew.now.reader.blocks c.args.crew.now.place) c.in-Ok.statement c.read_statement.result c.in-Ok.ensures.found c.read_statement.ensures.reads
