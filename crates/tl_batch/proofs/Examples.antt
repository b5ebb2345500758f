-- Worked batches, computed: keys affected twice and rows that are not there, remainders, and the ends of valid time.
use Rattle.std.proofs.Common.{◌≡◌, ℕ, ℤ, pos, negsuc, true, false, List, [], ◌∷◌, Some, None, Ok, Err, refl, codes}
use Rattle.tl_types.specs.declared.cells.Cell.TheVariants as cell
use Rattle.tl_types.specs.declared.cells.ColumnKind.TheVariants.{IntKind}
use Rattle.tl_types.specs.declared.schemas.Column.{Column}
use Rattle.tl_types.specs.declared.commits.Commit.{Commit}
use Rattle.tl_types.specs.declared.commits.Body.TheVariants as body
use Rattle.tl_types.specs.declared.batches.Batch.{Batch}
use Rattle.tl_types.specs.declared.batches.Batch.TheVariants as batch
use Rattle.tl_types.specs.declared.batches.KeyLine.{KeyLine}
use Rattle.tl_types.specs.declared.batches.BatchFault.TheVariants as fault
use Rattle.tl_types.specs.Limits.{standard_limits}
use Rattle.tl_types.specs.Plain as plain
use Rattle.tl_types.specs.History.{after_commit, database_of}
use Rattle.tl_types.specs.Resolving.{resolved}

abbrev column : List ℕ → Column
column name = record { name = name; kind = IntKind }

abbrev pub change : List ℕ → List plain.Opened → Commit
change closes opens = record { author = 7; body = body.Change (record { table = 0; closes = closes; opens = opens }) }

abbrev create : plain.Schema → Commit
create schema = record { author = 7; body = body.Create schema }

-- A TABLE WITHOUT VALID TIME

abbrev emp : plain.Schema
emp = record { name = codes "emp"; columns = column (codes "id") ∷ column (codes "pay") ∷ []; key = 0; valid = false }

abbrev pub row : ℕ → ℕ → plain.Opened
row id pay = record { cells = cell.Int (pos id) ∷ cell.Int (pos pay) ∷ []; period = None }

abbrev key : ℕ → KeyLine
key id = record { key = cell.Int (pos id); period = None }

abbrev of_emp : List plain.Opened → Batch
of_emp lines = batch.Put (codes "emp") lines

abbrev pub emp_2 : plain.Database
emp_2 = database_of (create emp ∷ change [] (row 1 100 ∷ row 2 50 ∷ []) ∷ [])

pub key_twice : resolved standard_limits emp_2 7 (of_emp (row 1 1 ∷ row 1 2 ∷ [])) ≡ Err (fault.KeyTwice 3)
key_twice = refl

pub key_twice_removed : resolved standard_limits emp_2 7 (batch.Remove (codes "emp") (key 1 ∷ key 2 ∷ key 1 ∷ [])) ≡ Err (fault.KeyTwice 4)
key_twice_removed = refl

pub no_row : resolved standard_limits emp_2 7 (batch.Remove (codes "emp") (key 9 ∷ [])) ≡ Err (fault.NoRow 2)
no_row = refl

-- at one line the key that was affected comes first, but an earlier line's fault before it
pub earlier_line : resolved standard_limits emp_2 7 (batch.Remove (codes "emp") (key 9 ∷ key 9 ∷ [])) ≡ Err (fault.NoRow 2)
earlier_line = refl

pub no_lines : resolved standard_limits emp_2 7 (of_emp []) ≡ Ok (change [] [])
no_lines = refl

-- ids that are closed ascend, whatever the order of the lines
pub closes_ascend : resolved standard_limits emp_2 7 (of_emp (row 2 7 ∷ row 1 8 ∷ [])) ≡ Ok (change (0 ∷ 1 ∷ []) (row 2 7 ∷ row 1 8 ∷ []))
closes_ascend = refl

pub unknown_table : resolved standard_limits emp_2 7 (batch.Put (codes "emps") (row 1 1 ∷ [])) ≡ Err fault.UnknownTable
unknown_table = refl

pub unknown_before_full : resolved (record standard_limits { versions = 2 }) emp_2 7 (batch.Put (codes "emps") []) ≡ Err fault.UnknownTable
unknown_before_full = refl

-- the row that is closed still counts
pub rows_full : resolved (record standard_limits { rows = 2 }) emp_2 7 (of_emp (row 1 1 ∷ [])) ≡ Err fault.RowsFull
rows_full = refl

pub two_open : resolved standard_limits (after_commit emp_2 (change [] (row 1 7 ∷ []))) 7 (batch.Remove (codes "emp") (key 1 ∷ [])) ≡ Ok (change (0 ∷ 2 ∷ []) [])
two_open = refl

-- A TABLE WITH VALID TIME

abbrev timed : plain.Schema
timed = record { name = codes "q"; columns = column (codes "k") ∷ column (codes "x") ∷ []; key = 0; valid = true }

abbrev from_to : ℕ → ℕ → ℤ → ℤ → plain.Opened
from_to k x from to = record { cells = cell.Int (pos k) ∷ cell.Int (pos x) ∷ []; period = Some (record { from = from; to = to }) }

abbrev pub part : ℕ → ℕ → ℕ → ℕ → plain.Opened
part k x from to = from_to k x (pos from) (pos to)

abbrev key_in : ℕ → ℕ → ℕ → KeyLine
key_in k from to = record { key = cell.Int (pos k); period = Some (record { from = pos from; to = pos to }) }

abbrev of_q : List plain.Opened → Batch
of_q lines = batch.Put (codes "q") lines

abbrev pub timed_2 : plain.Database
timed_2 = database_of (create timed ∷ change [] (part 1 5 0 100 ∷ []) ∷ [])

abbrev inside : Commit
inside = change (0 ∷ []) (part 1 5 0 10 ∷ part 1 5 20 50 ∷ part 1 5 60 100 ∷ part 1 6 10 20 ∷ part 1 7 50 60 ∷ [])

-- one row closed, five opened: what is left of the old row, then the rows put
pub put_inside : resolved standard_limits timed_2 7 (of_q (part 1 6 10 20 ∷ part 1 7 50 60 ∷ [])) ≡ Ok inside
put_inside = refl

abbrev pub timed_3 : plain.Database
timed_3 = after_commit timed_2 inside

-- the left end of a row is taken away
pub remove_left : resolved standard_limits timed_3 7 (batch.Remove (codes "q") (key_in 1 0 5 ∷ [])) ≡ Ok (change (1 ∷ []) (part 1 5 5 10 ∷ []))
remove_left = refl

pub remove_nothing : resolved standard_limits timed_3 7 (batch.Remove (codes "q") (key_in 1 200 300 ∷ [])) ≡ Err (fault.NoRow 2)
remove_nothing = refl

-- what a line took away is not there for a later one
pub remove_again : resolved standard_limits timed_3 7 (batch.Remove (codes "q") (key_in 1 0 5 ∷ key_in 1 2 4 ∷ [])) ≡ Err (fault.NoRow 3)
remove_again = refl

-- what a line left is
pub remove_more : resolved standard_limits timed_3 7 (batch.Remove (codes "q") (key_in 1 0 5 ∷ key_in 1 4 6 ∷ [])) ≡ Ok (change (1 ∷ []) (part 1 5 6 10 ∷ []))
remove_more = refl

-- periods that are adjacent have no part in common
pub remove_beside : resolved standard_limits timed_2 7 (batch.Remove (codes "q") (key_in 1 100 200 ∷ [])) ≡ Err (fault.NoRow 2)
remove_beside = refl

pub put_beside : resolved standard_limits timed_2 7 (of_q (part 1 6 100 200 ∷ [])) ≡ Ok (change [] (part 1 6 100 200 ∷ []))
put_beside = refl

-- a period that holds several rows
pub put_over : resolved standard_limits timed_3 7 (of_q (part 1 9 5 55 ∷ [])) ≡ Ok (change (1 ∷ 2 ∷ 4 ∷ 5 ∷ []) (part 1 5 0 5 ∷ part 1 7 55 60 ∷ part 1 9 5 55 ∷ []))
put_over = refl

-- lines of one key over one another: a later line cuts the row that an earlier one put
pub put_over_put : resolved standard_limits timed_2 7 (of_q (part 1 6 10 30 ∷ part 1 7 20 25 ∷ [])) ≡ Ok (change (0 ∷ []) (part 1 5 0 10 ∷ part 1 5 30 100 ∷ part 1 6 10 20 ∷ part 1 6 25 30 ∷ part 1 7 20 25 ∷ []))
put_over_put = refl

-- the same period again takes the place of all that it affects
pub put_same : resolved standard_limits timed_2 7 (of_q (part 1 6 0 100 ∷ part 1 7 0 100 ∷ [])) ≡ Ok (change (0 ∷ []) (part 1 7 0 100 ∷ []))
put_same = refl

-- another key's rows stay
pub put_other : resolved standard_limits timed_2 7 (of_q (part 2 6 10 20 ∷ [])) ≡ Ok (change [] (part 2 6 10 20 ∷ []))
put_other = refl

-- THE ENDS OF VALID TIME

abbrev least : ℤ
least = negsuc 9223372036854775807

abbrev forever : ℤ
forever = pos 9223372036854775807

abbrev always : plain.Database
always = database_of (create timed ∷ change [] (from_to 1 5 least forever ∷ []) ∷ [])

pub put_to_the_end : resolved standard_limits always 7 (of_q (from_to 1 6 (pos 5) forever ∷ [])) ≡ Ok (change (0 ∷ []) (from_to 1 5 least (pos 5) ∷ from_to 1 6 (pos 5) forever ∷ []))
put_to_the_end = refl

pub put_from_the_start : resolved standard_limits always 7 (of_q (from_to 1 6 least (pos 5) ∷ [])) ≡ Ok (change (0 ∷ []) (from_to 1 5 (pos 5) forever ∷ from_to 1 6 least (pos 5) ∷ []))
put_from_the_start = refl

pub put_over_all : resolved standard_limits always 7 (of_q (from_to 1 6 least forever ∷ [])) ≡ Ok (change (0 ∷ []) (from_to 1 6 least forever ∷ []))
put_over_all = refl
