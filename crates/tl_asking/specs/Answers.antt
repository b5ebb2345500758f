-- What a job is answered with over a list of commits, where an answer has the names of its columns
-- before its rows, and no statement but a query is taken.
use Rattle.std.specs.Prelude.{◌≡◌, ℕ, List, ◌++◌, length, Result, Ok, Err}
use Rattle.tl_types.specs.declared.commits.Commit.{Commit}
use Rattle.tl_types.specs.Plain as plain
use Rattle.tl_types.specs.History.{database_of}
use Rattle.tl_csv.specs.Answers.{answer_text}
use Rattle.tl_query.specs.declared.ast.Statement.{Statement}
use Rattle.tl_query.specs.declared.ast.Statement.TheVariants as statement
use Rattle.tl_query.specs.declared.check_faults.CheckFault.{CheckFault}
use Rattle.tl_query.specs.declared.faults.TextFault.{TextFault}
use Rattle.tl_query.specs.declared.faults.TextFault.TheVariants as text_fault
use Rattle.tl_query.specs.declared.typed_queries.Typed.{Typed}
use Rattle.tl_query.specs.Answers.{answer_of}
use Rattle.tl_query.specs.CheckingQueries.{checked}
use Rattle.tl_query.specs.Texts.{text_read}
use Rattle.tl_jobs.specs.declared.replies.AnswerText.{AnswerText}
use Rattle.tl_jobs.specs.declared.replies.Refusal.TheVariants as refusal
use Rattle.tl_jobs.specs.declared.replies.Reply.{Reply}
use Rattle.tl_jobs.specs.declared.replies.ReplyBody.{ReplyBody}
use Rattle.tl_jobs.specs.declared.replies.ReplyBody.TheVariants as body
use Rattle.tl_jobs.specs.Jobs.{Job}
use Rattle.tl_jobs.specs.Turns.{Turn, EachOfAll}
use Rattle.tl_asking.specs.Names.{names_of, names_text}

-- the answer to a checked query over a database: how many rows it has, and as CSV the line of its
-- columns' names, which does not count, and these rows
abbrev pub named_answer : plain.Database → Typed → AnswerText
named_answer db query =
    record {
      rows = length (answer_of db query);
      bytes = names_text (names_of db query)
          ++ answer_text (record { rows = answer_of db query });
    }

-- the answer to a query, or the fault of its check
abbrev pub query_answer : plain.Database → Result Typed CheckFault → ReplyBody
query_answer db (Err f) = body.Refused (refusal.CheckFault f)
query_answer db (Ok query) = body.Rows (named_answer db query)

-- the refusal of a statement that is no query
abbrev pub no_query : ReplyBody
no_query = body.Refused (refusal.TextFault (text_fault.Unexpected 0))

-- what a statement is answered with over a database, at so many commits
abbrev pub statement_answer : plain.Database → ℕ → Statement → ReplyBody
statement_answer db now (statement.Create form) = no_query
statement_answer db now (statement.Put name) = no_query
statement_answer db now (statement.Remove name) = no_query
statement_answer db now (statement.Sync name) = no_query
statement_answer db now (statement.Ask query) = query_answer db (checked now db query)
statement_answer db now (statement.Moment moment) = no_query
statement_answer db now (statement.Forget name floor) = no_query

-- what that is answered with that is read of a text
abbrev pub read_answer : plain.Database → ℕ → Result Statement TextFault → ReplyBody
read_answer db now (Err f) = body.Refused (refusal.TextFault f)
read_answer db now (Ok s) = statement_answer db now s

-- what a text is answered with over these commits: its fault; or that it spells no query; or the
-- fault of the query's check; or the answer with its names
abbrev pub text_answer : List Commit → List ℕ → ReplyBody
text_answer commits text = read_answer (database_of commits) (length commits) (text_read text)

-- the reply to a job over these commits, at the version that they make
abbrev pub named_reply : List Commit → Job → Reply
named_reply commits job =
    record { line = job.line; version = length commits; body = text_answer commits job.text }

-- the turn has the reply to its job over these commits
abbrev pub IsAnswered : List Commit → Turn → Type 0
IsAnswered commits t = t.reply ≡ named_reply commits t.job

-- so has each turn of all phases
abbrev pub AreAnswered : List Commit → List (List Turn) → Type 0
AreAnswered commits turns = EachOfAll (IsAnswered commits) turns
