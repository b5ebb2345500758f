-- Worked examples of the definitions, computed: employees, and the leases of flats, which have a
-- valid time.
use Rattle.std.proofs.Common.{◌≡◌, pos, true, false, List, [], ◌∷◌, Some, None, Err, refl, codes}
use Rattle.tl_types.specs.declared.cells.Cell.TheVariants as cell
use Rattle.tl_types.specs.declared.cells.ColumnKind.TheVariants.{IntKind, TextKind}
use Rattle.tl_types.specs.declared.commits.Body.TheVariants as body
use Rattle.tl_types.specs.declared.commits.Commit.{Commit}
use Rattle.tl_types.specs.History.{database_of}
use Rattle.tl_types.specs.Plain as plain
use Rattle.tl_query.specs.declared.ast.AggKind.TheVariants as kind
use Rattle.tl_query.specs.declared.ast.Statement.TheVariants as statement
use Rattle.tl_query.specs.declared.faults.TextFault.TheVariants as text_fault
use Rattle.tl_query.specs.declared.typed_queries.Span.TheVariants as span
use Rattle.tl_query.specs.declared.typed_queries.Typed.{Typed}
use Rattle.tl_query.specs.declared.typed_queries.Typed.TheVariants as typed
use Rattle.tl_query.specs.declared.typed_queries.TypedItem.TheVariants as item
use Rattle.tl_query.specs.declared.typed_queries.TypedPred.{TypedPred}
use Rattle.tl_jobs.specs.declared.replies.Refusal.TheVariants as refusal
use Rattle.tl_jobs.specs.declared.replies.ReplyBody.TheVariants as reply
use Rattle.tl_asking.specs.Answers.{named_answer, read_answer, statement_answer}
use Rattle.tl_asking.specs.Names.{names_of}

abbrev commits : List Commit
commits =
    record {
      author = 0;
      body = body.Create (record {
        name = codes "emp";
        columns = record { name = codes "id"; kind = IntKind } ∷ record { name = codes "dept"; kind = TextKind } ∷ [];
        key = 0;
        valid = false;
      });
    }
    ∷ record {
      author = 0;
      body = body.Create (record {
        name = codes "lease";
        columns = record { name = codes "flat"; kind = IntKind } ∷ record { name = codes "tenant"; kind = TextKind } ∷ [];
        key = 0;
        valid = true;
      });
    }
    ∷ record {
      author = 0;
      body = body.Change (record {
        table = 0;
        closes = [];
        opens = record { cells = cell.Int (pos 1) ∷ cell.Text (codes "ops") ∷ []; period = None } ∷ [];
      });
    }
    ∷ []

abbrev db : plain.Database
db = database_of commits

abbrev all_rows : TypedPred
all_rows = record { any = [] }

-- SELECT dept, id FROM emp
abbrev employees : Typed
employees = typed.Select 0 (item.Column 1 ∷ item.Column 0 ∷ []) all_rows None 3

item_names : names_of db employees ≡ codes "dept" ∷ codes "id" ∷ []
item_names = refl

-- SELECT valid_to, tenant, valid_from FROM lease
period_names : names_of db (typed.Select 1 (item.ValidTo ∷ item.Column 1 ∷ item.ValidFrom ∷ []) all_rows None 3) ≡ codes "valid_to" ∷ codes "tenant" ∷ codes "valid_from" ∷ []
period_names = refl

-- COUNT FROM emp OVER SYSTEM ALL, and BY dept
count_names : names_of db (typed.Agg 0 kind.Count None None all_rows (span.System 0 4)) ≡ codes "from" ∷ codes "to" ∷ codes "value" ∷ []
count_names = refl

group_names : names_of db (typed.Agg 0 kind.Count None (Some 1) all_rows (span.System 0 4)) ≡ codes "dept" ∷ codes "from" ∷ codes "to" ∷ codes "value" ∷ []
group_names = refl

-- JOIN emp WITH lease, and JOIN emp WITH emp
join_names : names_of db (typed.Join 0 all_rows 1 all_rows 0 0 (span.System 0 4)) ≡ codes "from" ∷ codes "to" ∷ codes "emp.id" ∷ codes "emp.dept" ∷ codes "lease.flat" ∷ codes "lease.tenant" ∷ []
join_names = refl

self_names : names_of db (typed.Join 0 all_rows 0 all_rows 0 0 (span.System 0 4)) ≡ codes "from" ∷ codes "to" ∷ codes "emp.id" ∷ codes "emp.dept" ∷ codes "emp_2.id" ∷ codes "emp_2.dept" ∷ []
self_names = refl

-- the line of names does not count
employees_told : (named_answer db employees).rows ≡ 1
employees_told = refl

-- a batch is refused, and so is a text with a fault
put_refused : statement_answer db 3 (statement.Put (record { text = codes "emp"; at = 4 })) ≡ reply.Refused (refusal.TextFault (text_fault.Unexpected 0))
put_refused = refl

fault_told : read_answer db 3 (Err (text_fault.BadByte 7)) ≡ reply.Refused (refusal.TextFault (text_fault.BadByte 7))
fault_told = refl
