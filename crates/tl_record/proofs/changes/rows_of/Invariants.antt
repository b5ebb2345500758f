use Rattle.std.proofs.Common.{◌≡◌, ◌-◌}
use Rattle.tl_record.specs.Reading.{several, prepended, row_at}
use Rattle.tl_record.proofs.changes.rows_of.Given as goal

abbrev pub invariant-loop : goal.invariant-loop
invariant-loop l =
    prepended l.rows.items (several row_at (l.count - l.counter) l.rest)
    ≡ several row_at l.count l.bytes
