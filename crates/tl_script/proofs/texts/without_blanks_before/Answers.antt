use Rattle.std.proofs.Common.{◌∙◌, sym, ap, subst, ℕ, List}
use Rattle.std.specs.Str.{IsUtf8}
use Rattle.tl_script.specs.Script.{without_blanks_before}
use Rattle.tl_script.proofs.ScriptLemmas.{drops_blank_before, utf8_rest}
use Rattle.tl_script.proofs.texts.without_blanks_before.Goals as goal

pub loop-first-preserved : goal.loop-first-preserved
loop-first-preserved c =
    let split = c.in-Some.ensures.cases.0 in
    let blank = sym c.if-not-is_blank.ensures in
    let P : List ℕ → Type 0 = λ xs. IsUtf8 xs in
    record {
      kept = sym (drops_blank_before c.in-Some.first.now c.in-Some.rest.now blank) ∙ (ap without_blanks_before (sym split) ∙ c.loop-first.invariant.kept);
      utf8 = λ u. utf8_rest c.in-Some.first.now c.in-Some.rest.now blank (subst P split (c.loop-first.invariant.utf8 u));
    }
