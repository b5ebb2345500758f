-- Worked examples of the definitions, computed: a file as a spreadsheet writes it, and the first
-- fault of headers and records. The table is `p (id INT, name TEXT, pay INT) KEY id`.
use Rattle.std.specs.Prelude.{◌≡◌, ℕ, ◌∷◌, [], List, None, Ok, Err, refl, codes, map, pos, neg_ℤ, false, true, Result, Some}
use Rattle.std.specs.Str.{is_utf8, chars}
use Rattle.std.proofs.Math.Utf8.{encode}
use Rattle.tl_types.specs.declared.cells.Cell.TheVariants as cell
use Rattle.tl_types.specs.declared.cells.ColumnKind.TheVariants.{IntKind, TextKind}
use Rattle.tl_types.specs.declared.batches.Batch.TheVariants as batch
use Rattle.tl_types.specs.declared.limits.Limits.{Limits}
use Rattle.tl_types.specs.Limits.{standard_limits}
use Rattle.tl_types.specs.Plain as plain
use Rattle.tl_csv.specs.declared.faults.CsvFault.{CsvFault}
use Rattle.tl_csv.specs.declared.faults.CsvFault.TheVariants as fault
use Rattle.tl_csv.specs.declared.needs.BatchKind.TheVariants.{PutKind, RemoveKind, SyncKind}
use Rattle.tl_csv.specs.ByteOrderMarks.{past_byte_order_marks}
use Rattle.tl_csv.specs.Faults.{◌>>=◌}
use Rattle.tl_csv.specs.Block.{batch_with, rows_of}
use Rattle.tl_csv.specs.Numbers.{integer_of}

people : plain.Schema
people = record {
  name = codes "p";
  columns = record { name = codes "id"; kind = IntKind } ∷ record { name = codes "name"; kind = TextKind } ∷ record { name = codes "pay"; kind = IntKind } ∷ [];
  key = 0;
  valid = false;
}

header : List (List ℕ)
header = codes "id" ∷ codes "name" ∷ codes "pay" ∷ []

-- texts of three bytes at most, and two records
few : Limits
few = record standard_limits { text = 3; batch = 2 }

rows : List (List (List ℕ)) → Result (List plain.Opened) CsvFault
rows records = rows_of few people PutKind records

file : rows_of standard_limits people PutKind ((codes "pay" ∷ codes "id" ∷ codes "name" ∷ []) ∷ (codes "100" ∷ codes "1" ∷ codes "Doe, J." ∷ []) ∷ [])
    ≡ Ok (record { cells = cell.Int (pos 1) ∷ cell.Text (codes "Doe, J.") ∷ cell.Int (pos 100) ∷ []; period = None } ∷ [])
unfolding people is_utf8 chars encode
file = refl

no_record : rows [] ≡ Err (fault.HeaderMissing 1)
unfolding rows
no_record = refl

missing : rows ((codes "id" ∷ codes "name" ∷ []) ∷ []) ≡ Err (fault.HeaderMissing 3)
unfolding rows people is_utf8 chars encode
missing = refl

misnamed : rows ((codes "id" ∷ codes "nam" ∷ codes "pay" ∷ []) ∷ []) ≡ Err (fault.HeaderName 2)
unfolding rows people is_utf8 chars encode
misnamed = refl

twice : rows ((codes "id" ∷ codes "id" ∷ codes "pay" ∷ []) ∷ []) ≡ Err (fault.HeaderTwice 2)
unfolding rows people is_utf8 chars encode
twice = refl

-- bytes come before names, and names before those that are missing
no_name : rows ((codes "nam" ∷ (255 ∷ []) ∷ []) ∷ []) ≡ Err (fault.NotUtf8 1 2)
unfolding rows people is_utf8 chars encode
no_name = refl

misnamed_first : rows ((codes "pay" ∷ codes "nam" ∷ []) ∷ []) ≡ Err (fault.HeaderName 2)
unfolding rows people is_utf8 chars encode
misnamed_first = refl

-- a header that comes again is a record
again : rows (header ∷ header ∷ []) ≡ Err (fault.NotInt 2 1)
unfolding rows people header few is_utf8 chars encode
again = refl

too_few : rows (header ∷ (codes "1" ∷ codes "x" ∷ []) ∷ []) ≡ Err (fault.FieldCount 2)
unfolding rows people header few is_utf8 chars encode
too_few = refl

-- the number of fields comes before the fields
count_first : rows (header ∷ ((255 ∷ []) ∷ []) ∷ []) ≡ Err (fault.FieldCount 2)
unfolding rows people header few is_utf8 chars encode
count_first = refl

no_text : rows (header ∷ (codes "1" ∷ (255 ∷ []) ∷ codes "1" ∷ []) ∷ []) ≡ Err (fault.NotUtf8 2 2)
unfolding rows people header few is_utf8 chars encode
no_text = refl

no_number : rows (header ∷ (codes "9223372036854775808" ∷ codes "x" ∷ codes "1" ∷ []) ∷ []) ≡ Err (fault.NotInt 2 1)
unfolding rows people header few is_utf8 chars encode
no_number = refl

too_long : rows (header ∷ (codes "1" ∷ codes "abcd" ∷ codes "1" ∷ []) ∷ []) ≡ Err (fault.TextTooLong 2 2)
unfolding rows people header few is_utf8 chars encode
too_long = refl

too_many : rows (header ∷ (codes "1" ∷ codes "x" ∷ codes "1" ∷ []) ∷ (codes "2" ∷ codes "y" ∷ codes "2" ∷ []) ∷ (codes "3" ∷ []) ∷ []) ≡ Err (fault.BatchTooLong 4)
unfolding rows people header few is_utf8 chars encode
too_many = refl

-- a table with valid time: `q (k INT, x INT) KEY k VALID`
timed : plain.Schema
timed = record {
  name = codes "q";
  columns = record { name = codes "k"; kind = IntKind } ∷ record { name = codes "x"; kind = IntKind } ∷ [];
  key = 0;
  valid = true;
}

timed_header : List (List ℕ)
timed_header = codes "k" ∷ codes "x" ∷ codes "valid_from" ∷ codes "valid_to" ∷ []

-- a row without an end
endless : rows_of standard_limits timed PutKind (timed_header ∷ (codes "1" ∷ codes "5" ∷ codes "-10" ∷ codes "FOREVER" ∷ []) ∷ [])
    ≡ Ok (record { cells = cell.Int (pos 1) ∷ cell.Int (pos 5) ∷ []; period = Some (record { from = neg_ℤ (pos 10); to = pos 9223372036854775807 }) } ∷ [])
unfolding timed timed_header is_utf8 chars encode
endless = refl

-- a period without a moment
empty : rows_of standard_limits timed PutKind (timed_header ∷ (codes "2" ∷ codes "5" ∷ codes "5" ∷ codes "5" ∷ []) ∷ []) ≡ Err (fault.EmptyPeriod 2)
unfolding timed timed_header is_utf8 chars encode
empty = refl

-- it comes behind the faults of all fields
empty_last : rows_of standard_limits timed PutKind ((codes "valid_from" ∷ codes "valid_to" ∷ codes "k" ∷ codes "x" ∷ []) ∷ (codes "5" ∷ codes "5" ∷ codes "2" ∷ codes "" ∷ []) ∷ []) ≡ Err (fault.NotInt 2 4)
unfolding timed is_utf8 chars encode
empty_last = refl

-- FOREVER is no first moment
no_beginning : rows_of standard_limits timed PutKind (timed_header ∷ (codes "2" ∷ codes "5" ∷ codes "FOREVER" ∷ codes "5" ∷ []) ∷ []) ≡ Err (fault.NotInt 2 3)
unfolding timed timed_header is_utf8 chars encode
no_beginning = refl

-- the end of the period is not named: it is the fourth of what a row needs, and the third of what a
-- removal needs
no_end : rows_of standard_limits timed PutKind ((codes "k" ∷ codes "x" ∷ codes "valid_from" ∷ []) ∷ []) ≡ Err (fault.HeaderMissing 4)
unfolding timed is_utf8 chars encode
no_end = refl

no_end_of_key : rows_of standard_limits timed RemoveKind ((codes "k" ∷ codes "valid_from" ∷ []) ∷ []) ≡ Err (fault.HeaderMissing 3)
unfolding timed is_utf8 chars encode
no_end_of_key = refl

-- a removal names the key and no other column
other_column : rows_of standard_limits timed RemoveKind ((codes "k" ∷ codes "x" ∷ codes "valid_from" ∷ codes "valid_to" ∷ []) ∷ []) ≡ Err (fault.HeaderName 2)
unfolding timed is_utf8 chars encode
other_column = refl

removal : (rows_of standard_limits timed RemoveKind ((codes "valid_to" ∷ codes "k" ∷ codes "valid_from" ∷ []) ∷ (codes "5" ∷ codes "1" ∷ codes "0" ∷ []) ∷ []) >>= λ rows. Ok (batch_with timed RemoveKind rows))
    ≡ Ok (batch.Remove (codes "q") (record { key = cell.Int (pos 1); period = Some (record { from = pos 0; to = pos 5 }) } ∷ []))
unfolding timed is_utf8 chars encode
removal = refl

-- all rows of a table name what a row needs
whole : (rows_of standard_limits timed SyncKind ((codes "valid_to" ∷ codes "x" ∷ codes "k" ∷ codes "valid_from" ∷ []) ∷ (codes "5" ∷ codes "7" ∷ codes "1" ∷ codes "0" ∷ []) ∷ []) >>= λ rows. Ok (batch_with timed SyncKind rows))
    ≡ Ok (batch.Sync (codes "q") (record { cells = cell.Int (pos 1) ∷ cell.Int (pos 7) ∷ []; period = Some (record { from = pos 0; to = pos 5 }) } ∷ []))
unfolding timed is_utf8 chars encode
whole = refl

key_alone : rows_of standard_limits timed SyncKind ((codes "k" ∷ codes "valid_from" ∷ codes "valid_to" ∷ []) ∷ []) ≡ Err (fault.HeaderMissing 2)
unfolding timed is_utf8 chars encode
key_alone = refl

two_marks : past_byte_order_marks (239 ∷ 187 ∷ 191 ∷ 239 ∷ 187 ∷ 191 ∷ codes "id") ≡ codes "id"
two_marks = refl

-- the ends of 64 bits, a sign, and what is no integer
integers : map integer_of (codes "-9223372036854775808" ∷ codes "9223372036854775807" ∷ codes "+7" ∷ codes "-0" ∷ [])
    ≡ Some (neg_ℤ (pos 9223372036854775808)) ∷ Some (pos 9223372036854775807) ∷ Some (pos 7) ∷ Some (pos 0) ∷ []
integers = refl

no_integers : map integer_of ([] ∷ codes "+" ∷ codes " 1" ∷ codes "9223372036854775808" ∷ codes "-9223372036854775809" ∷ [])
    ≡ None ∷ None ∷ None ∷ None ∷ None ∷ []
no_integers = refl
