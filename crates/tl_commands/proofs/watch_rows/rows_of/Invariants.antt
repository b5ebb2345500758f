use Rattle.std.proofs.Common.{◌≡◌, [], map, take}
use Rattle.tl_commands.specs.WatchRows.{standing_fields}
use Rattle.tl_commands.proofs.watch_rows.rows_of.Given as goal

abbrev pub invariant-loop-standing : goal.invariant-loop-standing
invariant-loop-standing l = record {
  rows : l.rows.rows ≡ map standing_fields (take l.standing-index l.standings);
  between : l.rows.row ≡ [];
}
