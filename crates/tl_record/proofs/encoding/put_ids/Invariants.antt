use Rattle.std.proofs.Common.{◌≡◌, ◌++◌}
use Rattle.std.proofs.Common.{drop}
use Rattle.std.specs.List.{flat_map}
use Rattle.tl_record.specs.Spelling.{number}
use Rattle.tl_record.proofs.encoding.put_ids.Given as goal

abbrev pub invariant-loop-id : goal.invariant-loop-id
invariant-loop-id l =
    l.out.items ++ flat_map number (drop l.id-index l.ids) ≡ l.fn.out.items ++ flat_map number l.ids
