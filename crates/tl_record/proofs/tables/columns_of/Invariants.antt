use Rattle.std.proofs.Common.{◌≡◌, ◌-◌, []}
use Rattle.tl_record.specs.Reading.{prepended, columns_at}
use Rattle.tl_record.proofs.tables.columns_of.Given as goal

abbrev pub invariant-loop : goal.invariant-loop
invariant-loop l =
    prepended l.columns.items (columns_at l.columns.items (l.count - l.counter) l.rest)
    ≡ columns_at [] l.count l.bytes
