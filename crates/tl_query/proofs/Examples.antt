-- The definitions, computed on texts.
use Rattle.std.proofs.Common.{◌≡◌, ℕ, List, [], ◌∷◌, Option, Some, None, Result, Ok, Err, pos, negsuc, codes, Bool, true, false, refl}
use Rattle.tl_types.specs.declared.cells.Cell.TheVariants as cells
use Rattle.tl_types.specs.declared.cells.Cmp.TheVariants as cmps
use Rattle.tl_types.specs.declared.cells.ColumnKind.TheVariants.{IntKind, TextKind}
use Rattle.tl_query.specs.declared.faults.TextFault.TheVariants.{BadByte, OpenText, NumberTooLarge, Unexpected}
use Rattle.tl_types.specs.Plain as plain
use Rattle.tl_query.specs.declared.check_faults.CheckFault.TheVariants as check_fault
use Rattle.tl_query.specs.declared.ast.Name.{Name}
use Rattle.tl_query.specs.declared.ast.Stamp.{Stamp}
use Rattle.tl_query.specs.declared.ast.AggKind.{AggKind}
use Rattle.tl_query.specs.declared.ast.AggKind.TheVariants as aggs
use Rattle.tl_query.specs.declared.ast.AsOf.{AsOf}
use Rattle.tl_query.specs.declared.ast.AsOf.TheVariants as as_ofs
use Rattle.tl_query.specs.declared.ast.Over.{Over}
use Rattle.tl_query.specs.declared.ast.Over.TheVariants as overs
use Rattle.tl_query.specs.declared.ast.Pred.{Pred}
use Rattle.tl_query.specs.declared.ast.Test.{Test}
use Rattle.tl_query.specs.declared.ast.ValidPoint.{ValidPoint}
use Rattle.tl_query.specs.declared.ast.Item.{Item}
use Rattle.tl_query.specs.declared.ast.Item.TheVariants.{Column, ValidFrom, ValidTo}
use Rattle.tl_query.specs.declared.ast.SelectForm.{SelectForm}
use Rattle.tl_query.specs.declared.typed_queries.Typed.TheVariants as typed
use Rattle.tl_query.specs.declared.typed_queries.TypedItem.TheVariants as typed_item
use Rattle.tl_query.specs.Checking.{Times, checked_create}
use Rattle.tl_query.specs.CheckingQueries.{select_checked, agg_checked}
use Rattle.tl_query.specs.declared.check_faults.CheckFault.{CheckFault}
use Rattle.tl_query.specs.declared.typed_queries.Typed.{Typed}
use Rattle.tl_query.specs.declared.typed_queries.Span.TheVariants as span
use Rattle.tl_query.specs.declared.ast.AggForm.{AggForm}
use Rattle.tl_query.specs.declared.ast.Query.TheVariants as queries
use Rattle.tl_query.specs.declared.ast.Statement.{Statement}
use Rattle.tl_query.specs.declared.ast.Statement.TheVariants as statements
use Rattle.std.specs.Fmt.{digits}
use Rattle.tl_query.specs.Terminals.{soft_spelling, spelling}
use Rattle.tl_query.specs.Printing.{put, text_of}
use Rattle.tl_query.specs.Texts.{text_read, IsFault, Spells}
use Rattle.tl_query.specs.Scanning.{scan, piece_at, word_piece, word_token, other_token, number_piece, negative_piece, quoted_piece, text_token, single_quotes, symbol_piece, closing_len}
use Rattle.tl_types.specs.Names.{keywords, spelling_of}
use Rattle.tl_query.specs.Reading.{after, expect, take_at, peek_at, last_of, statement_end, up_to, several, column_at, columns_at, valid_at, create_at, put_at, remove_at, asked_at, test_at, where_at, valid_point_at, version_or_moment_at, as_of_at, moment_stated_at, forget_at, sync_at, agg_or_soft_at, parse_select, versions_at, system_at, moments_at, over_at, column_name_at, by_at, agg_at, side_at, on_at, join_at, statement_at}
use Rattle.tl_query.proofs.Deciding.{read_fault, read_spelled}

-- a name, a number or bound, a test, and a predicate of one test
abbrev called : List ℕ → ℕ → Name
called text at = record { text = text; at = at }

abbrev stamp : ℕ → ℕ → Stamp
stamp n at = record { value = pos n; at = at }

abbrev none : Pred
none = record { any = [] }

abbrev only : Test → Pred
only test = record { any = (test ∷ []) ∷ [] }

-- a query for items, for an aggregate
abbrev select_of : List Item → Name → Pred → Option ValidPoint → Option AsOf → Statement
select_of items table pred valid as_of = statements.Ask (queries.Select (record { all = false; items = items; table = table; pred = pred; valid_at = valid; as_of = as_of }))

abbrev agg_of : AggKind → Option Name → Name → Pred → Option Name → Over → Statement
agg_of kind column table pred by over = statements.Ask (queries.Agg (record { kind = kind; column = column; table = table; pred = pred; by = by; over = over }))

-- faults of texts, at their first byte
text_faults : IsFault (codes "SELECT id FORM emp") (Unexpected 10) × IsFault (codes "SELECT $ FROM emp") (BadByte 7) × IsFault (codes "SELECT id FROM emp WHERE dept = 'ops") (OpenText 32) × IsFault (codes "SELECT id FROM emp AS OF 9223372036854775808") (NumberTooLarge 25)
unfolding text_read scan piece_at word_piece word_token other_token number_piece negative_piece quoted_piece symbol_piece keywords spelling_of closing_len after expect take_at peek_at last_of statement_end up_to several column_at columns_at valid_at create_at put_at remove_at asked_at test_at where_at valid_point_at version_or_moment_at as_of_at moment_stated_at forget_at agg_or_soft_at soft_spelling parse_select versions_at system_at moments_at over_at column_name_at by_at agg_at side_at on_at join_at statement_at
text_faults = (read_fault (codes "SELECT id FORM emp") (Unexpected 10) refl, read_fault (codes "SELECT $ FROM emp") (BadByte 7) refl, read_fault (codes "SELECT id FROM emp WHERE dept = 'ops") (OpenText 32) refl, read_fault (codes "SELECT id FROM emp AS OF 9223372036854775808") (NumberTooLarge 25) refl)

-- words that cannot stand where they do, and texts that end too early
words_misplaced : IsFault (codes "DROP t") (Unexpected 0) × IsFault (codes "") (Unexpected 0) × IsFault (codes "PUT 'b''") (OpenText 4) × IsFault (codes "CREATE TABLE t (k BLOB) KEY k") (Unexpected 18) × IsFault (codes "SELECT *, k FROM t") (Unexpected 8) × IsFault (codes "SELECT k FROM valid_from") (Unexpected 14)
unfolding text_read scan piece_at word_piece word_token other_token number_piece negative_piece quoted_piece symbol_piece keywords spelling_of closing_len after expect take_at peek_at last_of statement_end up_to several column_at columns_at valid_at create_at put_at remove_at asked_at test_at where_at valid_point_at version_or_moment_at as_of_at moment_stated_at forget_at agg_or_soft_at soft_spelling parse_select versions_at system_at moments_at over_at column_name_at by_at agg_at side_at on_at join_at statement_at
words_misplaced = (read_fault (codes "DROP t") (Unexpected 0) refl, read_fault (codes "") (Unexpected 0) refl, read_fault (codes "PUT 'b''") (OpenText 4) refl, read_fault (codes "CREATE TABLE t (k BLOB) KEY k") (Unexpected 18) refl, read_fault (codes "SELECT *, k FROM t") (Unexpected 8) refl, read_fault (codes "SELECT k FROM valid_from") (Unexpected 14) refl)

-- VALID, REMOVE and the ends of the period where they cannot stand, or where something lacks
misplaced : IsFault (codes "CREATE TABLE t (k INT) KEY k VALI") (Unexpected 29) × IsFault (codes "CREATE TABLE t (k INT) KEY k VALID x") (Unexpected 35) × IsFault (codes "REMOVE") (Unexpected 6) × IsFault (codes "REMOVE 5") (Unexpected 7) × IsFault (codes "REMOVE t x") (Unexpected 9) × IsFault (codes "SELECT valid_to, FROM t") (Unexpected 17) × IsFault (codes "SELECT valid_from valid_to FROM t") (Unexpected 18)
unfolding text_read scan piece_at word_piece word_token other_token number_piece negative_piece quoted_piece symbol_piece keywords spelling_of closing_len after expect take_at peek_at last_of statement_end up_to several column_at columns_at valid_at create_at put_at remove_at asked_at test_at where_at valid_point_at version_or_moment_at as_of_at moment_stated_at forget_at agg_or_soft_at soft_spelling parse_select versions_at system_at moments_at over_at column_name_at by_at agg_at side_at on_at join_at statement_at
misplaced = (read_fault (codes "CREATE TABLE t (k INT) KEY k VALI") (Unexpected 29) refl, read_fault (codes "CREATE TABLE t (k INT) KEY k VALID x") (Unexpected 35) refl, read_fault (codes "REMOVE") (Unexpected 6) refl, read_fault (codes "REMOVE 5") (Unexpected 7) refl, read_fault (codes "REMOVE t x") (Unexpected 9) refl, read_fault (codes "SELECT valid_to, FROM t") (Unexpected 17) refl, read_fault (codes "SELECT valid_from valid_to FROM t") (Unexpected 18) refl)

-- clauses where they cannot stand, or where something lacks
clauses_misplaced : IsFault (codes "SELECT id FROM emp WHERE") (Unexpected 24) × IsFault (codes "SELECT id FROM emp WHERE id = 1 AND") (Unexpected 35) × IsFault (codes "SELECT id FROM emp WHERE id 1") (Unexpected 28) × IsFault (codes "SELECT id FROM emp AS OF 1 VALID AT 2") (Unexpected 27) × IsFault (codes "SELECT id FROM emp AS OF -0") (Unexpected 25) × IsFault (codes "SELECT id FROM emp VALID AT FOREVER") (Unexpected 28) × IsFault (codes "COUNT id FROM emp OVER SYSTEM ALL") (Unexpected 6) × IsFault (codes "SUM FROM emp OVER SYSTEM ALL") (Unexpected 4) × IsFault (codes "COUNT FROM emp") (Unexpected 14) × IsFault (codes "COUNT FROM emp OVER SYSTEM 1") (Unexpected 28) × IsFault (codes "COUNT FROM emp OVER 1 TO 2") (Unexpected 20) × IsFault (codes "COUNT FROM emp OVER SYSTEM FOREVER TO 2") (Unexpected 27) × IsFault (codes "JOIN emp ON id = id OVER SYSTEM ALL") (Unexpected 9) × IsFault (codes "JOIN a WITH b ON k < k OVER SYSTEM ALL") (Unexpected 19) × IsFault (codes "PUT t;;") (Unexpected 6) × IsFault (codes ";") (Unexpected 0)
unfolding text_read scan piece_at word_piece word_token other_token number_piece negative_piece quoted_piece symbol_piece keywords spelling_of closing_len after expect take_at peek_at last_of statement_end up_to several column_at columns_at valid_at create_at put_at remove_at asked_at test_at where_at valid_point_at version_or_moment_at as_of_at moment_stated_at forget_at agg_or_soft_at soft_spelling parse_select versions_at system_at moments_at over_at column_name_at by_at agg_at side_at on_at join_at statement_at
clauses_misplaced = (read_fault (codes "SELECT id FROM emp WHERE") (Unexpected 24) refl, read_fault (codes "SELECT id FROM emp WHERE id = 1 AND") (Unexpected 35) refl, read_fault (codes "SELECT id FROM emp WHERE id 1") (Unexpected 28) refl, read_fault (codes "SELECT id FROM emp AS OF 1 VALID AT 2") (Unexpected 27) refl, read_fault (codes "SELECT id FROM emp AS OF -0") (Unexpected 25) refl, read_fault (codes "SELECT id FROM emp VALID AT FOREVER") (Unexpected 28) refl, read_fault (codes "COUNT id FROM emp OVER SYSTEM ALL") (Unexpected 6) refl, read_fault (codes "SUM FROM emp OVER SYSTEM ALL") (Unexpected 4) refl, read_fault (codes "COUNT FROM emp") (Unexpected 14) refl, read_fault (codes "COUNT FROM emp OVER SYSTEM 1") (Unexpected 28) refl, read_fault (codes "COUNT FROM emp OVER 1 TO 2") (Unexpected 20) refl, read_fault (codes "COUNT FROM emp OVER SYSTEM FOREVER TO 2") (Unexpected 27) refl, read_fault (codes "JOIN emp ON id = id OVER SYSTEM ALL") (Unexpected 9) refl, read_fault (codes "JOIN a WITH b ON k < k OVER SYSTEM ALL") (Unexpected 19) refl, read_fault (codes "PUT t;;") (Unexpected 6) refl, read_fault (codes ";") (Unexpected 0) refl)

-- tables, and what is put into them and removed
tables : Spells (codes "PUT t") (statements.Put (called (codes "t") 4)) × Spells (codes "REMOVE t;") (statements.Remove (called (codes "t") 7)) × Spells (codes "CREATE TABLE t (k INT, x TEXT) KEY k") (statements.Create (record { name = (called (codes "t") 13); columns = record { name = (called (codes "k") 16); kind = IntKind } ∷ record { name = (called (codes "x") 23); kind = TextKind } ∷ []; key = (called (codes "k") 35); valid = false })) × Spells (codes "CREATE TABLE t (k INT) KEY k VALID") (statements.Create (record { name = (called (codes "t") 13); columns = record { name = (called (codes "k") 16); kind = IntKind } ∷ []; key = (called (codes "k") 27); valid = true }))
unfolding text_read scan piece_at word_piece word_token other_token number_piece negative_piece quoted_piece symbol_piece keywords spelling_of closing_len after expect take_at peek_at last_of statement_end up_to several column_at columns_at valid_at create_at put_at remove_at asked_at test_at where_at valid_point_at version_or_moment_at as_of_at moment_stated_at forget_at agg_or_soft_at soft_spelling parse_select versions_at system_at moments_at over_at column_name_at by_at agg_at side_at on_at join_at statement_at
tables = (read_spelled (codes "PUT t") _ refl, read_spelled (codes "REMOVE t;") _ refl, read_spelled (codes "CREATE TABLE t (k INT, x TEXT) KEY k") _ refl, read_spelled (codes "CREATE TABLE t (k INT) KEY k VALID") _ refl)

-- queries for rows
selects : Spells (codes "SELECT id, pay FROM emp AS OF 2") (select_of (Column (called (codes "id") 7) ∷ Column (called (codes "pay") 11) ∷ []) (called (codes "emp") 20) none None (Some (as_ofs.Version (stamp 2 30)))) × Spells (codes "SELECT valid_to, validfrom, valid_from FROM t") (select_of (ValidTo 7 ∷ Column (called (codes "validfrom") 17) ∷ ValidFrom 28 ∷ []) (called (codes "t") 44) none None None) × Spells (codes "SELECT x FROM q VALID AT -10 ;") (select_of (Column (called (codes "x") 7) ∷ []) (called (codes "q") 14) none (Some (record { pos = 16; value = negsuc 9 })) None) × Spells (codes "SELECT x, valid_to FROM q AS OF 2") (select_of (Column (called (codes "x") 7) ∷ ValidTo 10 ∷ []) (called (codes "q") 24) none None (Some (as_ofs.Version (stamp 2 32)))) × Spells (codes "SELECT*FROM t") (statements.Ask (queries.Select (record { all = true; items = []; table = (called (codes "t") 12); pred = none; valid_at = None; as_of = None })))
unfolding text_read scan piece_at word_piece word_token other_token number_piece negative_piece quoted_piece symbol_piece keywords spelling_of closing_len after expect take_at peek_at last_of statement_end up_to several column_at columns_at valid_at create_at put_at remove_at asked_at test_at where_at valid_point_at version_or_moment_at as_of_at moment_stated_at forget_at agg_or_soft_at soft_spelling parse_select versions_at system_at moments_at over_at column_name_at by_at agg_at side_at on_at join_at statement_at
selects = (read_spelled (codes "SELECT id, pay FROM emp AS OF 2") _ refl, read_spelled (codes "SELECT valid_to, validfrom, valid_from FROM t") _ refl, read_spelled (codes "SELECT x FROM q VALID AT -10 ;") _ refl, read_spelled (codes "SELECT x, valid_to FROM q AS OF 2") _ refl, read_spelled (codes "SELECT*FROM t") _ refl)

-- queries for rows that pass tests
tests : Spells (codes "SELECT id FROM emp WHERE dept < 'ops'") (select_of (Column (called (codes "id") 7) ∷ []) (called (codes "emp") 15) (only (record { column = (called (codes "dept") 25); cmp = cmps.Lt; cmp_at = 30; value = cells.Text (codes "ops"); value_at = 32 })) None None) × Spells (codes "SELECT id FROM emp WHERE id >= 1 AND pay <> -0 OR dept = 'o''s'") (select_of (Column (called (codes "id") 7) ∷ []) (called (codes "emp") 15) (record { any = (record { column = (called (codes "id") 25); cmp = cmps.Ge; cmp_at = 28; value = cells.Int (pos 1); value_at = 31 } ∷ record { column = (called (codes "pay") 37); cmp = cmps.Ne; cmp_at = 41; value = cells.Int (pos 0); value_at = 44 } ∷ []) ∷ (record { column = (called (codes "dept") 50); cmp = cmps.Eq; cmp_at = 55; value = cells.Text (codes "o's"); value_at = 57 } ∷ []) ∷ [] }) None None)
unfolding text_read scan piece_at word_piece word_token other_token number_piece negative_piece quoted_piece text_token single_quotes symbol_piece keywords spelling_of closing_len after expect take_at peek_at last_of statement_end up_to several column_at columns_at valid_at create_at put_at remove_at asked_at test_at where_at valid_point_at version_or_moment_at as_of_at moment_stated_at forget_at agg_or_soft_at soft_spelling parse_select versions_at system_at moments_at over_at column_name_at by_at agg_at side_at on_at join_at statement_at
tests = (read_spelled (codes "SELECT id FROM emp WHERE dept < 'ops'") _ refl, read_spelled (codes "SELECT id FROM emp WHERE id >= 1 AND pay <> -0 OR dept = 'o''s'") _ refl)

-- queries for aggregates
aggregates : Spells (codes "COUNT FROM emp OVER SYSTEM 1 TO 6") (agg_of aggs.Count None (called (codes "emp") 11) none None (overs.System (stamp 1 27) (stamp 6 32))) × Spells (codes "SUM pay FROM emp WHERE pay >= 100 OVER SYSTEM 1 TO 6") (agg_of aggs.Sum (Some (called (codes "pay") 4)) (called (codes "emp") 13) (only (record { column = (called (codes "pay") 23); cmp = cmps.Ge; cmp_at = 27; value = cells.Int (pos 100); value_at = 30 })) None (overs.System (stamp 1 46) (stamp 6 51))) × Spells (codes "AVG pay FROM emp BY dept OVER SYSTEM 2 TO 6") (agg_of aggs.Avg (Some (called (codes "pay") 4)) (called (codes "emp") 13) none (Some (called (codes "dept") 20)) (overs.System (stamp 2 37) (stamp 6 42))) × Spells (codes "MIN x FROM m OVER SYSTEM 2 TO 5") (agg_of aggs.Min (Some (called (codes "x") 4)) (called (codes "m") 11) none None (overs.System (stamp 2 25) (stamp 5 30))) × Spells (codes "COUNT FROM emp OVER VALID 0 TO 9") (agg_of aggs.Count None (called (codes "emp") 11) none None (overs.Valid 20 (stamp 0 26) (stamp 9 31) None)) × Spells (codes "COUNT FROM c OVER VALID 0 TO FOREVER AS OF 1") (agg_of aggs.Count None (called (codes "c") 11) none None (overs.Valid 18 (stamp 0 24) (stamp 9223372036854775807 29) (Some (as_ofs.Version (stamp 1 43)))))
unfolding text_read scan piece_at word_piece word_token other_token number_piece negative_piece quoted_piece symbol_piece keywords spelling_of closing_len after expect take_at peek_at last_of statement_end up_to several column_at columns_at valid_at create_at put_at remove_at asked_at test_at where_at valid_point_at version_or_moment_at as_of_at moment_stated_at forget_at agg_or_soft_at soft_spelling parse_select versions_at system_at moments_at over_at column_name_at by_at agg_at side_at on_at join_at statement_at
aggregates = (read_spelled (codes "COUNT FROM emp OVER SYSTEM 1 TO 6") _ refl, read_spelled (codes "SUM pay FROM emp WHERE pay >= 100 OVER SYSTEM 1 TO 6") _ refl, read_spelled (codes "AVG pay FROM emp BY dept OVER SYSTEM 2 TO 6") _ refl, read_spelled (codes "MIN x FROM m OVER SYSTEM 2 TO 5") _ refl, read_spelled (codes "COUNT FROM emp OVER VALID 0 TO 9") _ refl, read_spelled (codes "COUNT FROM c OVER VALID 0 TO FOREVER AS OF 1") _ refl)

-- queries for pairs
joins : Spells (codes "JOIN emp WITH emp ON id = id OVER SYSTEM 2 TO 6") (statements.Ask (queries.Join (record { left = (called (codes "emp") 5); left_pred = none; right = (called (codes "emp") 14); right_pred = none; left_on = (called (codes "id") 21); right_on = (called (codes "id") 26); over = overs.System (stamp 2 41) (stamp 6 46) }))) × Spells (codes "JOIN emp WHERE zz = 1 WITH nope ON id = id OVER SYSTEM ALL") (statements.Ask (queries.Join (record { left = (called (codes "emp") 5); left_pred = (only (record { column = (called (codes "zz") 15); cmp = cmps.Eq; cmp_at = 18; value = cells.Int (pos 1); value_at = 20 })); right = (called (codes "nope") 27); right_pred = none; left_on = (called (codes "id") 35); right_on = (called (codes "id") 40); over = overs.SystemAll })))
unfolding text_read scan piece_at word_piece word_token other_token number_piece negative_piece quoted_piece symbol_piece keywords spelling_of closing_len after expect take_at peek_at last_of statement_end up_to several column_at columns_at valid_at create_at put_at remove_at asked_at test_at where_at valid_point_at version_or_moment_at as_of_at moment_stated_at forget_at agg_or_soft_at soft_spelling parse_select versions_at system_at moments_at over_at column_name_at by_at agg_at side_at on_at join_at statement_at
joins = (read_spelled (codes "JOIN emp WITH emp ON id = id OVER SYSTEM 2 TO 6") _ refl, read_spelled (codes "JOIN emp WHERE zz = 1 WITH nope ON id = id OVER SYSTEM ALL") _ refl)

-- TEXTS

-- the texts of statements
texts : (text_of (statements.Remove (called (codes "t") 9)) ≡ codes "REMOVE t")
    × (text_of (statements.Create (record { name = called (codes "t") 0; columns = record { name = called (codes "k") 0; kind = IntKind } ∷ record { name = called (codes "x") 0; kind = TextKind } ∷ []; key = called (codes "k") 0; valid = true })) ≡ codes "CREATE TABLE t (k INT, x TEXT) KEY k VALID")
    × (text_of (select_of (ValidTo 0 ∷ Column (called (codes "x") 0) ∷ []) (called (codes "q") 0) (only (record { column = called (codes "x") 0; cmp = cmps.Ne; cmp_at = 0; value = cells.Text (codes "o's"); value_at = 0 })) (Some (record { pos = 0; value = negsuc 9 })) (Some (as_ofs.Version (stamp 2 0)))) ≡ codes "SELECT valid_to, x FROM q WHERE x <> 'o''s' VALID AT -10 AS OF 2")
    × (text_of (agg_of aggs.Count None (called (codes "c") 0) none None (overs.Valid 0 (stamp 0 0) (stamp 9223372036854775807 0) None)) ≡ codes "COUNT FROM c OVER VALID 0 TO FOREVER")
unfolding put spelling soft_spelling spelling_of digits
texts = (refl, refl, refl, refl)

-- CHECKS

-- a table of a number, a text and a number, with valid time or without
abbrev staff : Bool → plain.Schema
staff valid = record {
  name = codes "emp";
  columns = record { name = codes "id"; kind = IntKind } ∷ record { name = codes "dept"; kind = TextKind } ∷ record { name = codes "pay"; kind = IntKind } ∷ [];
  key = 0;
  valid = valid;
}

-- three commits, no stamp, and no floor
abbrev at_3 : Times
at_3 = record { now = 3; stamps = []; floor = 0 }

-- SELECT * FROM emp, or SELECT items FROM emp
abbrev asking : Bool → List Item → SelectForm
asking all items = record { all = all; items = items; table = record { text = codes "emp"; at = 14 }; pred = record { any = [] }; valid_at = None; as_of = None }

-- `*` is all columns in order, at the last version
all_columns : select_checked at_3 (Some (1, staff false)) (asking true []) ≡ Ok (typed.Select 1 (typed_item.Column 0 ∷ typed_item.Column 1 ∷ typed_item.Column 2 ∷ []) (record { any = [] }) None 3)
all_columns = refl

-- and the ends of the valid period, where rows have one
all_and_period : select_checked at_3 (Some (1, staff true)) (asking true []) ≡ Ok (typed.Select 1 (typed_item.Column 0 ∷ typed_item.Column 1 ∷ typed_item.Column 2 ∷ typed_item.ValidFrom ∷ typed_item.ValidTo ∷ []) (record { any = [] }) None 3)
all_and_period = refl

-- named columns are in the order in which they are named
named_columns : select_checked at_3 (Some (1, staff true)) (asking false (Column (record { text = codes "pay"; at = 7 }) ∷ Column (record { text = codes "id"; at = 12 }) ∷ [])) ≡ Ok (typed.Select 1 (typed_item.Column 2 ∷ typed_item.Column 0 ∷ []) (record { any = [] }) None 3)
named_columns = refl

-- the ends of the valid period, where they are named
named_ends : select_checked at_3 (Some (1, staff true)) (asking false (ValidTo 7 ∷ ValidFrom 17 ∷ [])) ≡ Ok (typed.Select 1 (typed_item.ValidTo ∷ typed_item.ValidFrom ∷ []) (record { any = [] }) None 3)
named_ends = refl

-- a table whose rows have no valid period: the first of two faults
no_ends : select_checked at_3 (Some (1, staff false)) (asking false (ValidTo 7 ∷ Column (record { text = codes "x"; at = 17 }) ∷ [])) ≡ Err (check_fault.NotValidTable 7)
no_ends = refl

-- `*` of a table that is not there
all_of_nothing : select_checked at_3 None (asking true []) ≡ Err (check_fault.UnknownTable 14)
all_of_nothing = refl

-- the kinds of columns are those of the schema
kinds_kept : checked_create (record { name = record { text = codes "t"; at = 13 }; columns = record { name = record { text = codes "k"; at = 16 }; kind = TextKind } ∷ record { name = record { text = codes "x"; at = 24 }; kind = IntKind } ∷ []; key = record { text = codes "x"; at = 35 }; valid = false })
    ≡ Ok (record { name = codes "t"; columns = record { name = codes "k"; kind = TextKind } ∷ record { name = codes "x"; kind = IntKind } ∷ []; key = 1; valid = false })
kinds_kept = refl

-- MOMENTS AND FLOORS

-- statements of a moment and of a floor, and queries at a moment; the three words are names elsewhere
moments : Spells (codes "MOMENT 1000") (statements.Moment (stamp 1000 7)) × Spells (codes "FORGET emp BEFORE 3;") (statements.Forget (called (codes "emp") 7) (stamp 3 18)) × Spells (codes "FORGET BEFORE BEFORE 3") (statements.Forget (called (codes "BEFORE") 7) (stamp 3 21)) × Spells (codes "SELECT MOMENT FROM BEFORE") (select_of (Column (called (codes "MOMENT") 7) ∷ []) (called (codes "BEFORE") 19) none None None)
    × Spells (codes "SELECT id FROM emp AS OF MOMENT -1") (select_of (Column (called (codes "id") 7) ∷ []) (called (codes "emp") 15) none None (Some (as_ofs.Moment (record { value = negsuc 0; at = 32 }))))
    × Spells (codes "COUNT FROM c OVER VALID 0 TO 9 AS OF MOMENT 5") (agg_of aggs.Count None (called (codes "c") 11) none None (overs.Valid 18 (stamp 0 24) (stamp 9 29) (Some (as_ofs.Moment (stamp 5 44)))))
unfolding text_read scan piece_at word_piece word_token other_token number_piece negative_piece quoted_piece symbol_piece keywords spelling_of closing_len after expect take_at peek_at last_of statement_end up_to several column_at columns_at valid_at create_at put_at remove_at asked_at test_at where_at valid_point_at version_or_moment_at as_of_at moment_stated_at forget_at agg_or_soft_at soft_spelling parse_select versions_at system_at moments_at over_at column_name_at by_at agg_at side_at on_at join_at statement_at
moments = (read_spelled (codes "MOMENT 1000") _ refl, read_spelled (codes "FORGET emp BEFORE 3;") _ refl, read_spelled (codes "FORGET BEFORE BEFORE 3") _ refl, read_spelled (codes "SELECT MOMENT FROM BEFORE") _ refl, read_spelled (codes "SELECT id FROM emp AS OF MOMENT -1") _ refl, read_spelled (codes "COUNT FROM c OVER VALID 0 TO 9 AS OF MOMENT 5") _ refl)

moment_faults : IsFault (codes "MOMENT x") (Unexpected 7) × IsFault (codes "MOMENT") (Unexpected 6) × IsFault (codes "SELECT id FROM emp AS OF MOMENT") (Unexpected 31) × IsFault (codes "SELECT id FROM emp AS OF BEFORE") (Unexpected 25) × IsFault (codes "FORGET emp 3") (Unexpected 11) × IsFault (codes "FORGET emp BEFORE -3") (Unexpected 18) × IsFault (codes "FORGET emp MOMENT 3") (Unexpected 11) × IsFault (codes "BEFORE 3") (Unexpected 0) × IsFault (codes "MOMENT 9223372036854775808") (NumberTooLarge 7)
unfolding text_read scan piece_at word_piece word_token other_token number_piece negative_piece quoted_piece symbol_piece keywords spelling_of closing_len after expect take_at peek_at last_of statement_end up_to several column_at columns_at valid_at create_at put_at remove_at asked_at test_at where_at valid_point_at version_or_moment_at as_of_at moment_stated_at forget_at agg_or_soft_at soft_spelling parse_select versions_at system_at moments_at over_at column_name_at by_at agg_at side_at on_at join_at statement_at
moment_faults = (read_fault (codes "MOMENT x") (Unexpected 7) refl, read_fault (codes "MOMENT") (Unexpected 6) refl, read_fault (codes "SELECT id FROM emp AS OF MOMENT") (Unexpected 31) refl, read_fault (codes "SELECT id FROM emp AS OF BEFORE") (Unexpected 25) refl, read_fault (codes "FORGET emp 3") (Unexpected 11) refl, read_fault (codes "FORGET emp BEFORE -3") (Unexpected 18) refl, read_fault (codes "FORGET emp MOMENT 3") (Unexpected 11) refl, read_fault (codes "BEFORE 3") (Unexpected 0) refl, read_fault (codes "MOMENT 9223372036854775808") (NumberTooLarge 7) refl)

moment_texts : (text_of (statements.Moment (record { value = negsuc 9; at = 7 })) ≡ codes "MOMENT -10") × (text_of (statements.Forget (called (codes "t") 7) (stamp 3 16)) ≡ codes "FORGET t BEFORE 3") × (text_of (select_of (Column (called (codes "x") 0) ∷ []) (called (codes "q") 0) none None (Some (as_ofs.Moment (stamp 2 0)))) ≡ codes "SELECT x FROM q AS OF MOMENT 2")
unfolding put spelling soft_spelling spelling_of digits
moment_texts = (refl, refl, refl)

-- a statement that makes a table what its block says; its word is a name elsewhere
syncs : Spells (codes "SYNC emp;") (statements.Sync (called (codes "emp") 5)) × Spells (codes " SYNC SYNC") (statements.Sync (called (codes "SYNC") 6)) × Spells (codes "PUT SYNC") (statements.Put (called (codes "SYNC") 4)) × Spells (codes "SELECT SYNC FROM SYNC") (select_of (Column (called (codes "SYNC") 7) ∷ []) (called (codes "SYNC") 17) none None None)
unfolding text_read scan piece_at word_piece word_token other_token number_piece negative_piece quoted_piece symbol_piece keywords spelling_of closing_len after expect take_at peek_at last_of statement_end up_to several column_at columns_at valid_at create_at put_at remove_at asked_at test_at where_at valid_point_at version_or_moment_at as_of_at moment_stated_at forget_at sync_at agg_or_soft_at soft_spelling parse_select versions_at system_at moments_at over_at column_name_at by_at agg_at side_at on_at join_at statement_at
syncs = (read_spelled (codes "SYNC emp;") _ refl, read_spelled (codes " SYNC SYNC") _ refl, read_spelled (codes "PUT SYNC") _ refl, read_spelled (codes "SELECT SYNC FROM SYNC") _ refl)

sync_faults : IsFault (codes "SYNC") (Unexpected 4) × IsFault (codes "SYNC PUT") (Unexpected 5) × IsFault (codes "SYNC emp x") (Unexpected 9) × IsFault (codes "sync emp") (Unexpected 0) × IsFault (codes "SYNCS emp") (Unexpected 0)
unfolding text_read scan piece_at word_piece word_token other_token number_piece negative_piece quoted_piece symbol_piece keywords spelling_of closing_len after expect take_at peek_at last_of statement_end up_to several column_at columns_at valid_at create_at put_at remove_at asked_at test_at where_at valid_point_at version_or_moment_at as_of_at moment_stated_at forget_at sync_at agg_or_soft_at soft_spelling parse_select versions_at system_at moments_at over_at column_name_at by_at agg_at side_at on_at join_at statement_at
sync_faults = (read_fault (codes "SYNC") (Unexpected 4) refl, read_fault (codes "SYNC PUT") (Unexpected 5) refl, read_fault (codes "SYNC emp x") (Unexpected 9) refl, read_fault (codes "sync emp") (Unexpected 0) refl, read_fault (codes "SYNCS emp") (Unexpected 0) refl)

sync_text : text_of (statements.Sync (called (codes "t") 5)) ≡ codes "SYNC t"
unfolding put spelling soft_spelling spelling_of digits
sync_text = refl

-- nine commits, moments at 6 and 8, and nothing before 3
abbrev at_9 : Times
at_9 = record { now = 9; stamps = record { version = 6; moment = pos 1000 } ∷ record { version = 8; moment = pos 2000 } ∷ []; floor = 3 }

-- SELECT * FROM emp AS OF .., and its version
abbrev asking_at : AsOf → SelectForm
asking_at as_of = record { all = false; items = []; table = record { text = codes "emp"; at = 14 }; pred = record { any = [] }; valid_at = None; as_of = Some as_of }

abbrev at_version : ℕ → Result Typed CheckFault
at_version version = Ok (typed.Select 1 [] (record { any = [] }) None version)

versions_asked : (select_checked at_9 (Some (1, staff false)) (asking_at (as_ofs.Version (stamp 3 25))) ≡ at_version 3)
    × (select_checked at_9 (Some (1, staff false)) (asking_at (as_ofs.Version (stamp 2 25))) ≡ Err (check_fault.Forgotten 25 3))
    × (select_checked at_9 (Some (1, staff false)) (asking_at (as_ofs.Version (stamp 10 25))) ≡ Err (check_fault.VersionAhead 25 10 9))
    × (select_checked at_9 (Some (1, staff false)) (asking_at (as_ofs.Moment (stamp 999 32))) ≡ at_version 5)
    × (select_checked at_9 (Some (1, staff false)) (asking_at (as_ofs.Moment (stamp 1000 32))) ≡ at_version 7)
    × (select_checked at_9 (Some (1, staff false)) (asking_at (as_ofs.Moment (stamp 5000 32))) ≡ at_version 9)
    × (select_checked (record at_9 { floor = 6 }) (Some (1, staff false)) (asking_at (as_ofs.Moment (stamp 999 32))) ≡ Err (check_fault.Forgotten 32 6))
versions_asked = (refl, refl, refl, refl, refl, refl, refl)

-- COUNT FROM emp OVER ..
abbrev counting : Over → AggForm
counting over = record { kind = aggs.Count; column = None; table = record { text = codes "emp"; at = 11 }; pred = record { any = [] }; by = None; over = over }

ranges_asked : (agg_checked at_9 (Some (1, staff false)) (counting overs.SystemAll) ≡ Ok (typed.Agg 1 aggs.Count None None (record { any = [] }) (span.System 3 10)))
    × (agg_checked at_9 (Some (1, staff false)) (counting (overs.System (stamp 1 27) (stamp 6 32))) ≡ Err (check_fault.Forgotten 27 3))
    × (agg_checked at_9 (Some (1, staff false)) (counting (overs.System (stamp 1 27) (stamp 1 32))) ≡ Err (check_fault.EmptyRange 27))
    × (agg_checked at_9 (Some (1, staff true)) (counting (overs.Valid 20 (stamp 0 26) (stamp 9 31) (Some (as_ofs.Version (stamp 2 39))))) ≡ Err (check_fault.Forgotten 39 3))
ranges_asked = (refl, refl, refl, refl)
