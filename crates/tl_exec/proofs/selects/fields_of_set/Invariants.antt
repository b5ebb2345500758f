use Rattle.std.proofs.Common.{◌≡◌, [], ◌+◌, ◌-◌, ◌*◌, ◌/◌, ◌≤◌, length}
use Rattle.tl_types.specs.History.{database_of, rows_of}
use Rattle.tl_exec.specs.Shown.{TellsAsked}
use Rattle.tl_exec.proofs.ShownLemmas.{shown_to, count_to}
use Rattle.tl_exec.proofs.selects.fields_of_set.Given as goal

abbrev pub invariant-members : goal.invariant-members
invariant-members g l = record {
  within : l.from ≤ length l.set;
  rows : l.rows.rows ≡ shown_to l.asked.items.now l.asked.valid_at l.set (rows_of (database_of l.asked.store.now) l.asked.table) l.from;
  between : l.rows.row ≡ [];
  word : TellsAsked (database_of l.asked.store.now) l.asked.table l.asked.valid_at l.word.at l.word.bits;
  steps : l.steps ≤ l.initial.steps + l.from / 64 + (length l.asked.items.now + 2) * count_to l.set (rows_of (database_of l.asked.store.now) l.asked.table) l.from;
}

abbrev pub decreases-members : goal.decreases-members
decreases-members g l = length l.set - l.from
