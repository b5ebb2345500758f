-- Worked examples of the definitions, computed: employees, of whom one gets more pay, and the other
-- leaves and comes back.
use Rattle.std.proofs.Common.{◌≡◌, ℕ, pos, false, List, [], ◌∷◌, ◌++◌, Some, None, Ok, Err, refl, codes}
use Rattle.tl_types.specs.declared.answers.Field.{Field}
use Rattle.tl_types.specs.declared.answers.Field.TheVariants as field
use Rattle.tl_types.specs.declared.cells.Cell.TheVariants as cell
use Rattle.tl_types.specs.declared.cells.Cmp.TheVariants as cmp
use Rattle.tl_types.specs.declared.cells.ColumnKind.TheVariants.{IntKind, TextKind}
use Rattle.tl_types.specs.declared.commits.Body.TheVariants as body
use Rattle.tl_types.specs.declared.commits.Commit.{Commit}
use Rattle.tl_types.specs.History.{database_of}
use Rattle.tl_types.specs.Plain as plain
use Rattle.tl_query.specs.declared.ast.AggKind.TheVariants as kind
use Rattle.tl_query.specs.declared.ast.Name.{Name}
use Rattle.tl_query.specs.declared.ast.Over.{Over}
use Rattle.tl_query.specs.declared.ast.Over.TheVariants as over
use Rattle.tl_query.specs.declared.ast.Query.TheVariants as query
use Rattle.tl_query.specs.declared.ast.Statement.{Statement}
use Rattle.tl_query.specs.declared.ast.Statement.TheVariants as statement
use Rattle.tl_query.specs.declared.check_faults.CheckFault.TheVariants as check_fault
use Rattle.tl_jobs.specs.declared.replies.Refusal.TheVariants as refusal
use Rattle.tl_watch.specs.declared.plans.WatchPlan.{WatchPlan}
use Rattle.tl_watch.specs.Standings.{standing_of}
use Rattle.tl_commands.specs.Plans.{no_plan, statement_plan}
use Rattle.tl_commands.specs.WatchRows.{standing_answer}

abbrev change : List ℕ → List plain.Opened → Commit
change closes opens = record { author = 0; body = body.Change (record { table = 0; closes = closes; opens = opens }) }

abbrev emp : ℕ → List ℕ → ℕ → plain.Opened
emp id dept pay = record { cells = cell.Int (pos id) ∷ cell.Text dept ∷ cell.Int (pos pay) ∷ []; period = None }

abbrev two : List Commit
two =
    record {
      author = 0;
      body = body.Create (record {
        name = codes "emp";
        columns = record { name = codes "id"; kind = IntKind } ∷ record { name = codes "dept"; kind = TextKind } ∷ record { name = codes "pay"; kind = IntKind } ∷ [];
        key = 0;
        valid = false;
      });
    }
    ∷ change [] (emp 1 (codes "ops") 100 ∷ emp 2 (codes "dev") 50 ∷ []) ∷ []

abbrev three : List Commit
three = two ++ change (0 ∷ []) (emp 1 (codes "ops") 150 ∷ []) ∷ []

abbrev four : List Commit
four = three ++ change (1 ∷ []) [] ∷ []

abbrev five : List Commit
five = four ++ change [] (emp 2 (codes "dev") 50 ∷ []) ∷ []

-- the sum of what the employees of each department get
abbrev by_department : WatchPlan
by_department = record { table = 0; kind = kind.Sum; column = Some 2; by = Some 1; pred = record { any = [] } }

-- the least that an employee of one department gets
abbrev least_of_dev : WatchPlan
least_of_dev = record { table = 0; kind = kind.Min; column = Some 2; by = None; pred = record { any = (record { column = 1; cmp = cmp.Eq; value = cell.Text (codes "dev") } ∷ []) ∷ [] } }

abbrev row : List ℕ → ℕ → ℕ → List Field
row dept pay count = field.Text dept ∷ field.Number (pos pay) ∷ field.Number (pos count) ∷ []

told_by_three : standing_answer (standing_of (database_of three) by_department) ≡ record { rows = row (codes "dev") 50 1 ∷ row (codes "ops") 150 1 ∷ [] }
told_by_three = refl

told_by_four : standing_answer (standing_of (database_of four) by_department) ≡ record { rows = row (codes "ops") 150 1 ∷ [] }
told_by_four = refl

told_by_five : standing_answer (standing_of (database_of five) by_department) ≡ record { rows = row (codes "dev") 50 1 ∷ row (codes "ops") 150 1 ∷ [] }
told_by_five = refl

least_of_three : standing_answer (standing_of (database_of three) least_of_dev) ≡ record { rows = (field.Number (pos 50) ∷ field.Number (pos 1) ∷ []) ∷ [] }
least_of_three = refl

least_of_none : standing_answer (standing_of (database_of four) least_of_dev) ≡ record { rows = (field.Empty ∷ field.Number (pos 0) ∷ []) ∷ [] }
least_of_none = refl

-- the sum of a column by department, as a statement
abbrev sum_of : Name → Over → Statement
sum_of column range = statement.Ask (query.Agg (record { kind = kind.Sum; column = Some column; table = record { text = codes "emp"; at = 13 }; pred = record { any = [] }; by = Some (record { text = codes "dept"; at = 20 }); over = range }))

plan_of_sum : statement_plan (database_of two) 2 (sum_of (record { text = codes "pay"; at = 4 }) over.SystemAll) ≡ Ok by_department
plan_of_sum = refl

sum_of_texts : statement_plan (database_of two) 2 (sum_of (record { text = codes "dept"; at = 4 }) over.SystemAll) ≡ Err (refusal.CheckFault (check_fault.WrongType 4))
sum_of_texts = refl

-- the kind comes before the check
sum_over_some : statement_plan (database_of two) 2 (sum_of (record { text = codes "dept"; at = 4 }) (over.System (record { value = pos 3; at = 38 }) (record { value = pos 1; at = 43 }))) ≡ Err no_plan
sum_over_some = refl
