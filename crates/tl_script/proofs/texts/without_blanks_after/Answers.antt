use Rattle.std.proofs.Common.{◌∙◌, sym, ap, subst, ℕ, List}
use Rattle.std.specs.Str.{IsUtf8}
use Rattle.tl_script.specs.Script.{without_blanks_after}
use Rattle.tl_script.proofs.ScriptLemmas.{drops_blank_after, utf8_prefix}
use Rattle.tl_script.proofs.texts.without_blanks_after.Goals as goal

pub loop-last-preserved : goal.loop-last-preserved
loop-last-preserved c =
    let split = c.in-Some.ensures.cases.0 in
    let blank = sym c.if-not-is_blank.ensures in
    let P : List ℕ → Type 0 = λ xs. IsUtf8 xs in
    record {
      kept = sym (drops_blank_after c.in-Some.last.now c.in-Some.prefix.now blank) ∙ (ap without_blanks_after (sym split) ∙ c.loop-last.invariant.kept);
      utf8 = λ u. utf8_prefix c.in-Some.last.now c.in-Some.prefix.now blank (subst P split (c.loop-last.invariant.utf8 u));
    }
