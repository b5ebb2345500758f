use Rattle.std.proofs.Common.{◌≡◌, length}
use Rattle.std.specs.Str.{IsUtf8}
use Rattle.tl_script.specs.Script.{without_blanks_before}
use Rattle.tl_script.proofs.texts.without_blanks_before.Given as goal

abbrev pub decreases-loop-first : goal.decreases-loop-first
decreases-loop-first l = length l.kept

abbrev pub invariant-loop-first : goal.invariant-loop-first
invariant-loop-first l = record {
  kept : without_blanks_before l.kept ≡ without_blanks_before l.bytes;
  utf8 : IsUtf8 l.bytes → IsUtf8 l.kept;
}
