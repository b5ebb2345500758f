-- The reader was given what the source had and has no more, and that is not too long.
use Rattle.std.proofs.Common.{◌≡◌, ◌-◌, ◌≤◌}
use Rattle.tl_follow.specs.Inputs.{input_limit}
use Rattle.tl_follow.specs.Readers.{count_of}
use Rattle.tl_commands.specs.Following.{ReadsFront}
use Rattle.tl_commands.proofs.following.read_input.Given as goal

abbrev pub invariant-reading : goal.invariant-reading
invariant-reading g l = record {
  front : ReadsFront l.fn.snapshot (g.S.Source.left l.initial.source) l.reader (g.S.Source.left l.source);
  short : count_of l.reader ≤ input_limit;
  sure : g.S.Source.faults l.source ≡ g.S.Source.faults l.initial.source;
}

abbrev pub decreases-reading : goal.decreases-reading
decreases-reading g l = input_limit - count_of l.reader
