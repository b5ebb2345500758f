-- What a text is that is to name a plan: the plan, or the first fault. Its parse comes first, then
-- its kind, then its check.
use Rattle.std.specs.Prelude.{◌≡◌, ◌⊎◌, ℕ, Bool, true, false, List, length, Result, Ok, Err, if◌then◌else◌}
use Rattle.tl_types.specs.declared.commits.Commit.{Commit}
use Rattle.tl_types.specs.Plain as plain
use Rattle.tl_types.specs.History.{database_of}
use Rattle.tl_query.specs.declared.ast.Over.{Over}
use Rattle.tl_query.specs.declared.ast.Over.TheVariants as over
use Rattle.tl_query.specs.declared.ast.Query.{Query}
use Rattle.tl_query.specs.declared.ast.Query.TheVariants as query
use Rattle.tl_query.specs.declared.ast.Statement.{Statement}
use Rattle.tl_query.specs.declared.ast.Statement.TheVariants as statement
use Rattle.tl_query.specs.declared.check_faults.CheckFault.{CheckFault}
use Rattle.tl_query.specs.declared.faults.TextFault.{TextFault}
use Rattle.tl_query.specs.declared.faults.TextFault.TheVariants as text_fault
use Rattle.tl_query.specs.declared.typed_queries.Typed.{Typed}
use Rattle.tl_query.specs.declared.typed_queries.Typed.TheVariants as typed
use Rattle.tl_query.specs.CheckingQueries.{checked}
use Rattle.tl_query.specs.Texts.{Spells, IsFault, text_read}
use Rattle.tl_jobs.specs.declared.replies.Refusal.{Refusal}
use Rattle.tl_jobs.specs.declared.replies.Refusal.TheVariants as refusal
use Rattle.tl_watch.specs.declared.plans.WatchPlan.{WatchPlan}

-- the range is of all versions
abbrev pub is_all : Over → Bool
is_all over.SystemAll = true
is_all (over.System from to) = false
is_all (over.Valid pos from to as_of) = false

-- the query is an aggregate over all versions
abbrev pub is_over_all : Query → Bool
is_over_all (query.Select form) = false
is_over_all (query.Agg form) = is_all form.over
is_over_all (query.Join form) = false

-- the refusal of a statement that is no aggregate over all versions
abbrev pub no_plan : Refusal
no_plan = refusal.TextFault (text_fault.Unexpected 0)

-- the plan of a checked query, whose range is not used
abbrev pub plan_of : Typed → Result WatchPlan Refusal
plan_of (typed.Select table items pred valid_at version) = Err no_plan
plan_of (typed.Agg table kind column by pred span) =
    Ok (record { table = table; kind = kind; column = column; by = by; pred = pred })
plan_of (typed.Join left left_pred right right_pred left_on right_on span) = Err no_plan

-- the plan of a query, or the fault of its check
abbrev pub plan_checked : Result Typed CheckFault → Result WatchPlan Refusal
plan_checked (Err f) = Err (refusal.CheckFault f)
plan_checked (Ok t) = plan_of t

-- what a query over a database is at so many commits
abbrev pub query_plan : plain.Database → ℕ → Query → Result WatchPlan Refusal
query_plan db now asked =
    if is_over_all asked then plan_checked (checked now db asked) else Err no_plan

-- what a statement is
abbrev pub statement_plan : plain.Database → ℕ → Statement → Result WatchPlan Refusal
statement_plan db now (statement.Create form) = Err no_plan
statement_plan db now (statement.Put name) = Err no_plan
statement_plan db now (statement.Remove name) = Err no_plan
statement_plan db now (statement.Sync name) = Err no_plan
statement_plan db now (statement.Ask asked) = query_plan db now asked
statement_plan db now (statement.Moment moment) = Err no_plan
statement_plan db now (statement.Forget name floor) = Err no_plan

-- what is read of a text
abbrev pub read_plan : plain.Database → ℕ → Result Statement TextFault → Result WatchPlan Refusal
read_plan db now (Err f) = Err (refusal.TextFault f)
read_plan db now (Ok s) = statement_plan db now s

-- the plan that a text names over these commits, or the first fault: that of the text, then that it
-- is no aggregate over all versions, then that of its check
abbrev pub plan_reading : List Commit → List ℕ → Result WatchPlan Refusal
plan_reading commits text = read_plan (database_of commits) (length commits) (text_read text)

-- what the statement that a text spells is over these commits
abbrev pub IsSpelledPlan : List Commit → List ℕ → Result WatchPlan Refusal → Type 0
IsSpelledPlan commits text read =
    (s : Statement) × Spells text s
    × (read ≡ statement_plan (database_of commits) (length commits) s)

-- the refusal is the fault of the text
abbrev pub IsTextFault : List ℕ → Refusal → Type 0
IsTextFault text why = (f : TextFault) × IsFault text f × (why ≡ refusal.TextFault f)
