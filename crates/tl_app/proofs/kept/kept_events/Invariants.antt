use Rattle.std.proofs.Common.{◌+◌, ◌≤◌}
use Rattle.tl_types.specs.declared.events.ValidEvent.{ValidEvent}
use Rattle.tl_bits.specs.Sets.{is_member}
use Rattle.tl_app.proofs.KeptLemmas.{IsSifted}
use Rattle.tl_app.proofs.kept.kept_events.Given as goal

abbrev pub invariant-loop-i : goal.invariant-loop-i
invariant-loop-i g l = record {
  sifted : IsSifted (λ (event : ValidEvent). is_member l.keep event.row) l.initial.events.items l.events.items l.i l.kept;
  steps : l.steps ≤ l.initial.steps + l.i;
}
