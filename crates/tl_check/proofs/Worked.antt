-- Checks of queries over small tables, computed.
use Rattle.std.proofs.Common.{◌≡◌, ℕ, true, false, pos, List, [], ◌∷◌, Option, Some, None, Ok, Err, refl, codes}
use Rattle.tl_types.specs.declared.cells.Cell.{Cell}
use Rattle.tl_types.specs.declared.cells.Cell.TheVariants as cell
use Rattle.tl_types.specs.declared.cells.ColumnKind.TheVariants.{IntKind, TextKind}
use Rattle.tl_types.specs.declared.cells.Cmp.{Cmp}
use Rattle.tl_types.specs.declared.cells.Cmp.TheVariants as cmp
use Rattle.tl_types.specs.Plain as plain
use Rattle.tl_query.specs.declared.ast.Name.{Name}
use Rattle.tl_query.specs.declared.ast.Stamp.{Stamp}
use Rattle.tl_query.specs.declared.ast.AsOf.{AsOf}
use Rattle.tl_query.specs.declared.ast.AsOf.TheVariants as as_ofs
use Rattle.tl_query.specs.declared.ast.Pred.{Pred}
use Rattle.tl_query.specs.declared.ast.Item.TheVariants as item
use Rattle.tl_query.specs.declared.ast.AggKind.TheVariants as agg
use Rattle.tl_query.specs.declared.ast.Over.{Over}
use Rattle.tl_query.specs.declared.ast.Over.TheVariants as over
use Rattle.tl_query.specs.declared.ast.Query.{Query}
use Rattle.tl_query.specs.declared.ast.Query.TheVariants as query
use Rattle.tl_query.specs.declared.typed_queries.Span.TheVariants as span
use Rattle.tl_query.specs.declared.typed_queries.TypedPred.{TypedPred}
use Rattle.tl_query.specs.declared.typed_queries.Typed.TheVariants as typed
use Rattle.tl_query.specs.declared.typed_queries.TypedItem.TheVariants as typed_item
use Rattle.tl_query.specs.declared.check_faults.CheckFault.TheVariants as fault
use Rattle.tl_query.specs.Checking.{checked_create}
use Rattle.tl_query.specs.CheckingQueries.{checked}

-- emp (id INT, dept TEXT, pay INT) KEY id, at five commits
abbrev emp : plain.Table
emp = record {
  schema = record {
    name = codes "emp";
    columns = record { name = codes "id"; kind = IntKind } ∷ record { name = codes "dept"; kind = TextKind } ∷ record { name = codes "pay"; kind = IntKind } ∷ [];
    key = 0;
    valid = false;
  };
  floor = 0;
  rows = [];
}

abbrev staff : plain.Database
staff = record { version = 5; tables = emp ∷ []; stamps = [] }

-- q (k INT, x INT) KEY k VALID, at three commits
abbrev q : plain.Table
q = record {
  schema = record {
    name = codes "q";
    columns = record { name = codes "k"; kind = IntKind } ∷ record { name = codes "x"; kind = IntKind } ∷ [];
    key = 0;
    valid = true;
  };
  floor = 0;
  rows = [];
}

abbrev prices : plain.Database
prices = record { version = 3; tables = q ∷ []; stamps = [] }

abbrev named : List ℕ → ℕ → Name
named text at = record { text = text; at = at }

abbrev stamp : ℕ → ℕ → Stamp
stamp n at = record { value = pos n; at = at }

abbrev all : Pred
all = record { any = [] }

abbrev every_row : TypedPred
every_row = record { any = [] }

abbrev one_test : Name → Cmp → ℕ → Cell → ℕ → Pred
one_test column c cmp_at value value_at = record { any = (record { column = column; cmp = c; cmp_at = cmp_at; value = value; value_at = value_at } ∷ []) ∷ [] }

abbrev ids : Pred → Option AsOf → Query
ids pred as_of = query.Select (record { all = false; items = item.Column (named (codes "id") 7) ∷ []; table = named (codes "emp") 15; pred = pred; valid_at = None; as_of = as_of })

abbrev count : Name → Over → Query
count table over = query.Agg (record { kind = agg.Count; column = None; table = table; pred = all; by = None; over = over })

-- SELECT id FROM emp AS OF 0
version_zero : checked 5 staff (ids all (Some (as_ofs.Version (stamp 0 25)))) ≡ Ok (typed.Select 0 (typed_item.Column 0 ∷ []) every_row None 0)
version_zero = refl

-- SELECT id FROM emp AS OF 6
version_ahead : checked 5 staff (ids all (Some (as_ofs.Version (stamp 6 25)))) ≡ Err (fault.VersionAhead 25 6 5)
version_ahead = refl

-- SELECT id FROM emp WHERE dept < 'ops'
order_of_texts : checked 5 staff (ids (one_test (named (codes "dept") 25) cmp.Lt 30 (cell.Text (codes "ops")) 32) None) ≡ Err (fault.WrongType 30)
order_of_texts = refl

-- SELECT id FROM emp WHERE dept < 5: the order stands before the constant
order_of_a_number : checked 5 staff (ids (one_test (named (codes "dept") 25) cmp.Lt 30 (cell.Int (pos 5)) 32) None) ≡ Err (fault.WrongType 30)
order_of_a_number = refl

-- SELECT id FROM emp WHERE pay = 'ops'
text_for_a_number : checked 5 staff (ids (one_test (named (codes "pay") 25) cmp.Eq 29 (cell.Text (codes "ops")) 31) None) ≡ Err (fault.WrongType 31)
text_for_a_number = refl

-- SELECT id FROM emp WHERE pay >= 100
numbers : checked 5 staff (ids (one_test (named (codes "pay") 25) cmp.Ge 29 (cell.Int (pos 100)) 32) None)
    ≡ Ok (typed.Select 0 (typed_item.Column 0 ∷ []) (record { any = (record { column = 2; cmp = cmp.Ge; value = cell.Int (pos 100) } ∷ []) ∷ [] }) None 5)
numbers = refl

-- COUNT FROM emp OVER VALID 0 TO 9
no_valid_time : checked 5 staff (count (named (codes "emp") 11) (over.Valid 20 (stamp 0 26) (stamp 9 31) None)) ≡ Err (fault.NotValidTable 20)
no_valid_time = refl

-- COUNT FROM emp OVER SYSTEM 3 TO 3
no_version : checked 5 staff (count (named (codes "emp") 11) (over.System (stamp 3 27) (stamp 3 32))) ≡ Err (fault.EmptyRange 27)
no_version = refl

-- COUNT FROM emp OVER SYSTEM 1 TO 6: the range ends at the version that follows the last commit
to_the_last : checked 5 staff (count (named (codes "emp") 11) (over.System (stamp 1 27) (stamp 6 32))) ≡ Ok (typed.Agg 0 agg.Count None None every_row (span.System 1 6))
to_the_last = refl

-- COUNT FROM emp OVER SYSTEM 1 TO 7
past_the_last : checked 5 staff (count (named (codes "emp") 11) (over.System (stamp 1 27) (stamp 7 32))) ≡ Err (fault.VersionAhead 32 7 5)
past_the_last = refl

-- SELECT id FROM emp AS OF 2, where versions below 3 were forgotten at version 6
abbrev forgetful : plain.Database
forgetful = record { version = 6; tables = record emp { floor = 3 } ∷ []; stamps = [] }

before_the_floor : checked 6 forgetful (ids all (Some (as_ofs.Version (stamp 2 25)))) ≡ Err (fault.Forgotten 25 3)
before_the_floor = refl

-- SELECT id FROM emp AS OF 3
at_the_floor : checked 6 forgetful (ids all (Some (as_ofs.Version (stamp 3 25)))) ≡ Ok (typed.Select 0 (typed_item.Column 0 ∷ []) every_row None 3)
at_the_floor = refl

-- COUNT FROM emp OVER SYSTEM ALL, 1 TO 6 and 1 TO 1: at one place the empty range comes first
all_from_the_floor : checked 6 forgetful (count (named (codes "emp") 11) over.SystemAll) ≡ Ok (typed.Agg 0 agg.Count None None every_row (span.System 3 7))
all_from_the_floor = refl

range_before_the_floor : checked 6 forgetful (count (named (codes "emp") 11) (over.System (stamp 1 27) (stamp 6 32))) ≡ Err (fault.Forgotten 27 3)
range_before_the_floor = refl

empty_before_the_floor : checked 6 forgetful (count (named (codes "emp") 11) (over.System (stamp 1 27) (stamp 1 32))) ≡ Err (fault.EmptyRange 27)
empty_before_the_floor = refl

-- SELECT id FROM emp AS OF MOMENT .., where versions 6 and 8 state 1000 and 2000
abbrev stamped : plain.Database
stamped = record { version = 8; tables = emp ∷ []; stamps = record { version = 6; moment = pos 1000 } ∷ record { version = 8; moment = pos 2000 } ∷ [] }

before_all_moments : checked 8 stamped (ids all (Some (as_ofs.Moment (stamp 999 32)))) ≡ Ok (typed.Select 0 (typed_item.Column 0 ∷ []) every_row None 5)
before_all_moments = refl

at_a_moment : checked 8 stamped (ids all (Some (as_ofs.Moment (stamp 1000 32)))) ≡ Ok (typed.Select 0 (typed_item.Column 0 ∷ []) every_row None 7)
at_a_moment = refl

behind_all_moments : checked 8 stamped (ids all (Some (as_ofs.Moment (stamp 5000 32)))) ≡ Ok (typed.Select 0 (typed_item.Column 0 ∷ []) every_row None 8)
behind_all_moments = refl

-- SUM dept FROM emp BY pay OVER SYSTEM ALL
sum_of_texts : checked 5 staff (query.Agg (record { kind = agg.Sum; column = Some (named (codes "dept") 4); table = named (codes "emp") 14; pred = all; by = Some (named (codes "pay") 21); over = over.SystemAll })) ≡ Err (fault.WrongType 4)
sum_of_texts = refl

-- SUM pay FROM emp BY dept OVER SYSTEM ALL
sum_by_texts : checked 5 staff (query.Agg (record { kind = agg.Sum; column = Some (named (codes "pay") 4); table = named (codes "emp") 13; pred = all; by = Some (named (codes "dept") 20); over = over.SystemAll })) ≡ Ok (typed.Agg 0 agg.Sum (Some 2) (Some 1) every_row (span.System 0 6))
sum_by_texts = refl

-- JOIN emp WHERE .. = 1 WITH nope ON id = id OVER SYSTEM ALL
abbrev with_nope : List ℕ → Query
with_nope column = query.Join (record {
  left = named (codes "emp") 5;
  left_pred = one_test (named column 15) cmp.Eq 18 (cell.Int (pos 1)) 20;
  right = named (codes "nope") 27;
  right_pred = one_test (named (codes "zz") 38) cmp.Eq 41 (cell.Int (pos 1)) 43;
  left_on = named (codes "id") 48;
  right_on = named (codes "id") 53;
  over = over.SystemAll;
})

least_offset : checked 5 staff (with_nope (codes "zz")) ≡ Err (fault.UnknownColumn 15)
least_offset = refl

unknown_table : checked 5 staff (with_nope (codes "id")) ≡ Err (fault.UnknownTable 27)
unknown_table = refl

-- JOIN emp WITH emp ON id = .. OVER SYSTEM 2 TO 6
abbrev pairs : List ℕ → Over → Query
pairs column over = query.Join (record { left = named (codes "emp") 5; left_pred = all; right = named (codes "emp") 14; right_pred = all; left_on = named (codes "id") 21; right_on = named column 26; over = over })

joined : checked 5 staff (pairs (codes "id") (over.System (stamp 2 41) (stamp 6 46))) ≡ Ok (typed.Join 0 every_row 0 every_row 0 0 (span.System 2 6))
joined = refl

two_kinds : checked 5 staff (pairs (codes "dept") (over.System (stamp 2 41) (stamp 6 46))) ≡ Err (fault.WrongType 26)
two_kinds = refl

no_column : checked 5 staff (pairs (codes "age") (over.System (stamp 2 41) (stamp 6 46))) ≡ Err (fault.UnknownColumn 26)
no_column = refl

-- SELECT x, valid_from, valid_to FROM q
ends_of_periods : checked 3 prices (query.Select (record { all = false; items = item.Column (named (codes "x") 7) ∷ item.ValidFrom 10 ∷ item.ValidTo 22 ∷ []; table = named (codes "q") 36; pred = all; valid_at = None; as_of = None }))
    ≡ Ok (typed.Select 0 (typed_item.Column 1 ∷ typed_item.ValidFrom ∷ typed_item.ValidTo ∷ []) every_row None 3)
ends_of_periods = refl

-- SELECT * FROM q VALID AT 10
all_at_ten : checked 3 prices (query.Select (record { all = true; items = []; table = named (codes "q") 14; pred = all; valid_at = Some (record { pos = 16; value = pos 10 }); as_of = None }))
    ≡ Ok (typed.Select 0 (typed_item.Column 0 ∷ typed_item.Column 1 ∷ typed_item.ValidFrom ∷ typed_item.ValidTo ∷ []) every_row (Some (pos 10)) 3)
all_at_ten = refl

-- SUM x FROM q OVER VALID 0 TO 100
sum_over_valid : checked 3 prices (query.Agg (record { kind = agg.Sum; column = Some (named (codes "x") 4); table = named (codes "q") 11; pred = all; by = None; over = over.Valid 18 (stamp 0 24) (stamp 100 29) None })) ≡ Ok (typed.Agg 0 agg.Sum (Some 1) None every_row (span.Valid 3 (pos 0) (pos 100)))
sum_over_valid = refl

-- COUNT FROM q OVER VALID 9 TO 9 AS OF 2
no_moment : checked 3 prices (count (named (codes "q") 11) (over.Valid 18 (stamp 9 24) (stamp 9 29) (Some (as_ofs.Version (stamp 2 37))))) ≡ Err (fault.EmptyRange 24)
no_moment = refl

-- CREATE TABLE t (a INT, a INT) KEY a
column_twice : checked_create (record { name = named (codes "t") 13; columns = record { name = named (codes "a") 16; kind = IntKind } ∷ record { name = named (codes "a") 23; kind = IntKind } ∷ []; key = named (codes "a") 34; valid = false }) ≡ Err (fault.ColumnTwice 23)
column_twice = refl

-- CREATE TABLE t (a INT) KEY b
no_key : checked_create (record { name = named (codes "t") 13; columns = record { name = named (codes "a") 16; kind = IntKind } ∷ []; key = named (codes "b") 27; valid = false }) ≡ Err (fault.UnknownColumn 27)
no_key = refl
