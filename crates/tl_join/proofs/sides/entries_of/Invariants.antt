use Rattle.std.proofs.Common.{◌≡◌, ◌≤◌, ◌+◌, ◌*◌, take}
use Rattle.std.specs.List.{AllByRecursion}
use Rattle.tl_keys.specs.Keys.{AreApart, KeepsNumbers}
use Rattle.tl_join.specs.Sides.{IsEntryOf, ids_in}
use Rattle.tl_join.proofs.sides.entries_of.Given as goal

abbrev pub invariant-loop-id : goal.invariant-loop-id
invariant-loop-id g l =
    record {
      ids : ids_in l.entries.items ≡ take l.id-index l.ids;
      entries : AllByRecursion (IsEntryOf l.side l.plan l.keys) l.entries.items;
      apart : AreApart l.keys;
      kept : KeepsNumbers l.initial.keys l.keys;
      count : l.keys.count ≤ l.initial.keys.count + l.id-index;
      steps : l.steps ≤ l.initial.steps + 2 * l.id-index;
    }
