-- Worked blocks that say all of a table, computed: rows that stay, are closed and are opened, one row that stands twice, periods, and keys that stand twice.
use Rattle.std.proofs.Common.{◌≡◌, ℕ, List, [], ◌∷◌, Ok, Err, refl, codes}
use Rattle.tl_types.specs.declared.commits.Commit.{Commit}
use Rattle.tl_types.specs.declared.batches.Batch.{Batch}
use Rattle.tl_types.specs.declared.batches.Batch.TheVariants as batch
use Rattle.tl_types.specs.declared.batches.BatchFault.{BatchFault}
use Rattle.tl_types.specs.declared.batches.BatchFault.TheVariants as fault
use Rattle.std.specs.declared.result.Result.{Result}
use Rattle.tl_types.specs.Limits.{standard_limits}
use Rattle.tl_types.specs.Plain as plain
use Rattle.tl_types.specs.History.{after_commit}
use Rattle.tl_types.specs.Resolving.{resolved}
use Rattle.tl_batch.proofs.Examples.{change, row, emp_2, part, timed_2, timed_3}

-- WITHOUT VALID TIME: rows 1 100 AND 2 50 STAND, WITH THE IDS 0 AND 1

abbrev of_emp : List plain.Opened → Result Commit BatchFault
of_emp lines = resolved standard_limits emp_2 7 (batch.Sync (codes "emp") lines)

-- nothing differs, in any order
nothing_differs : of_emp (row 2 50 ∷ row 1 100 ∷ []) ≡ Ok (change [] [])
nothing_differs = refl

-- one stays, one is closed, and what is new is opened in the order of the lines
one_stays : of_emp (row 9 1 ∷ row 1 100 ∷ row 3 1 ∷ []) ≡ Ok (change (1 ∷ []) (row 9 1 ∷ row 3 1 ∷ []))
one_stays = refl

-- a row of the same key with other cells is another row
other_cells : of_emp (row 1 101 ∷ row 2 50 ∷ []) ≡ Ok (change (0 ∷ []) (row 1 101 ∷ []))
other_cells = refl

-- no lines: the table is emptied
no_lines : of_emp [] ≡ Ok (change (0 ∷ 1 ∷ []) [])
no_lines = refl

key_twice : of_emp (row 2 50 ∷ row 1 100 ∷ row 2 50 ∷ []) ≡ Err (fault.KeyTwice 4)
key_twice = refl

unknown_table : resolved standard_limits emp_2 7 (batch.Sync (codes "emps") []) ≡ Err fault.UnknownTable
unknown_table = refl

unknown_before_full : resolved (record standard_limits { versions = 2 }) emp_2 7 (batch.Sync (codes "emps") []) ≡ Err fault.UnknownTable
unknown_before_full = refl

full_before_lines : resolved (record standard_limits { versions = 2 }) emp_2 7 (batch.Sync (codes "emp") (row 1 1 ∷ row 1 1 ∷ [])) ≡ Err fault.VersionsFull
full_before_lines = refl

-- a row that is closed still counts
rows_full : resolved (record standard_limits { rows = 2 }) emp_2 7 (batch.Sync (codes "emp") (row 1 100 ∷ row 3 1 ∷ [])) ≡ Err fault.RowsFull
rows_full = refl

no_rows_more : resolved (record standard_limits { rows = 2 }) emp_2 7 (batch.Sync (codes "emp") (row 1 100 ∷ [])) ≡ Ok (change (1 ∷ []) [])
no_rows_more = refl

line_before_full : resolved (record standard_limits { rows = 2 }) emp_2 7 (batch.Sync (codes "emp") (row 3 1 ∷ row 3 2 ∷ [])) ≡ Err (fault.KeyTwice 3)
line_before_full = refl

-- of two open rows that are the same, the one of least id stays
abbrev twice : plain.Database
twice = after_commit emp_2 (change [] (row 1 100 ∷ row 1 7 ∷ []))

least_stays : resolved standard_limits twice 7 (batch.Sync (codes "emp") (row 1 100 ∷ [])) ≡ Ok (change (1 ∷ 2 ∷ 3 ∷ []) [])
least_stays = refl

-- a row that ended does not stand
abbrev ended : plain.Database
ended = after_commit emp_2 (change (0 ∷ []) [])

ended_again : resolved standard_limits ended 7 (batch.Sync (codes "emp") (row 1 100 ∷ row 2 50 ∷ [])) ≡ Ok (change [] (row 1 100 ∷ []))
ended_again = refl

-- WITH VALID TIME

abbrev of_q : plain.Database → List plain.Opened → Result Commit BatchFault
of_q db lines = resolved standard_limits db 7 (batch.Sync (codes "q") lines)

same_period_stays : of_q timed_2 (part 1 5 0 100 ∷ part 1 6 100 200 ∷ []) ≡ Ok (change [] (part 1 6 100 200 ∷ []))
same_period_stays = refl

-- the same cells over another period are another row: nothing is cut
other_period : of_q timed_2 (part 1 5 0 50 ∷ []) ≡ Ok (change (0 ∷ []) (part 1 5 0 50 ∷ []))
other_period = refl

-- of five open rows of one key two stay
two_stay : of_q timed_3 (part 1 7 50 60 ∷ part 1 5 0 10 ∷ part 2 5 0 10 ∷ []) ≡ Ok (change (2 ∷ 3 ∷ 4 ∷ []) (part 2 5 0 10 ∷ []))
two_stay = refl

no_periods : of_q timed_2 [] ≡ Ok (change (0 ∷ []) [])
no_periods = refl

overlapping : of_q timed_2 (part 1 5 0 100 ∷ part 2 5 0 100 ∷ part 1 6 99 101 ∷ []) ≡ Err (fault.KeyTwice 4)
overlapping = refl

the_same_line_again : of_q timed_2 (part 1 5 0 100 ∷ part 1 5 0 100 ∷ []) ≡ Err (fault.KeyTwice 3)
the_same_line_again = refl
