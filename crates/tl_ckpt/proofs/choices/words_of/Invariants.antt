use Rattle.std.proofs.Common.{◌≡◌, ℕ, ◌+◌, ◌*◌, ◌<◌, length}
use Rattle.tl_lanes.specs.Masks.{bit_of}
use Rattle.tl_bits.specs.Sets.{is_member}
use Rattle.tl_ckpt.proofs.choices.words_of.Given as goal

abbrev pub invariant-loop-i : goal.invariant-loop-i
invariant-loop-i g l = record {
  long : length l.words.items ≡ l.i;
  bits : (j : ℕ) → j < 64 * l.i → bit_of l.words.items j ≡ is_member l.set j;
  steps : l.steps ≡ l.initial.steps + l.i;
}
