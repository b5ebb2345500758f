use Rattle.std.proofs.Common.{◌≤◌, ◌+◌, ◌*◌, take}
use Rattle.tl_keys.specs.Keys.{AreApart, KeepsNumbers}
use Rattle.tl_join.specs.ValidSides.{AreEntries}
use Rattle.tl_join.proofs.valid_sides.entries_of.Given as goal

abbrev pub invariant-loop-event : goal.invariant-loop-event
invariant-loop-event g l = record {
  entries : AreEntries l.side l.plan l.keys (take l.event-index l.events) l.entries.items;
  apart : AreApart l.keys;
  kept : KeepsNumbers l.initial.keys l.keys;
  count : l.keys.count ≤ l.initial.keys.count + l.event-index;
  steps : l.steps ≤ l.initial.steps + 3 * l.event-index;
}
