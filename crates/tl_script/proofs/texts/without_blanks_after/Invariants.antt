use Rattle.std.proofs.Common.{◌≡◌, length}
use Rattle.std.specs.Str.{IsUtf8}
use Rattle.tl_script.specs.Script.{without_blanks_after}
use Rattle.tl_script.proofs.texts.without_blanks_after.Given as goal

abbrev pub decreases-loop-last : goal.decreases-loop-last
decreases-loop-last l = length l.kept

abbrev pub invariant-loop-last : goal.invariant-loop-last
invariant-loop-last l = record {
  kept : without_blanks_after l.kept ≡ without_blanks_after l.bytes;
  utf8 : IsUtf8 l.bytes → IsUtf8 l.kept;
}
