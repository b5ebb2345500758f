use Rattle.std.proofs.Common.{◌≡◌, ◌-◌}
use Rattle.tl_record.specs.Reading.{several, prepended, cell_at}
use Rattle.tl_record.proofs.rows.push_cells.Given as goal

abbrev pub invariant-loop : goal.invariant-loop
invariant-loop l =
    prepended l.cells.items (several cell_at (l.count - l.counter) l.rest)
    ≡ prepended l.fn.cells.items (several cell_at l.count l.bytes)
