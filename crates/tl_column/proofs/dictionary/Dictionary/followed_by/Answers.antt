use Rattle.std.proofs.Common.{◌≡◌, ℕ, ◌+◌, ◌<◌, false, ◌++◌, ◌∷◌, [], length, sym, ap, ◌∙◌, subst}
use Rattle.tl_shared.specs.Chunks.{flatten}
use Rattle.tl_column.specs.Dictionary.{contains_text, AreDistinct}
use Rattle.tl_column.specs.Runs.{times}
use Rattle.tl_column.proofs.RunFacts.{runs_kept, complete_more}
use Rattle.tl_column.proofs.Coding.{distinct_more}
use Rattle.tl_column.proofs.dictionary.Dictionary.followed_by.Goals as goal

pub add_run-requires-clause-runs : goal.add_run-requires-clause-runs
add_run-requires-clause-runs c =
    rw c.in_ok-texts.ensures
    (runs_kept c.self.inside.texts (c.args.text.now ∷ []) c.self.inside.runs.items c.self.invariant.sorted)

pub invariant_of-result : goal.invariant_of-result
invariant_of-result c =
    let old = flatten c.self.inside.runs.items in
    let new = flatten c.add_run.new.runs.items in
    let grown : c.in_ok-texts.texts ≡ c.self.inside.texts ++ c.args.text.now ∷ [] = c.in_ok-texts.ensures in
    let next : c.args.code ≡ length c.self.inside.texts = c.requires.code ∙ ap length (sym c.self.view_is) in
    let lacks : contains_text c.self.inside.texts c.args.text.now ≡ false = ap (λ ts. contains_text ts c.args.text.now) c.self.view_is ∙ c.requires.new in
    let more : (code : ℕ) → times code new ≡ times code old + times code (c.args.code ∷ []) =
    λ code. c.in_ok-add_run.ensures.all code ∙ ap (λ codes. times code old + times code codes) c.in_ok-vec.ensures.items in
    record {
      distinct = subst AreDistinct (sym grown) (distinct_more c.self.inside.texts c.args.text.now c.self.invariant.distinct lacks);
      sorted = c.in_ok-add_run.ensures.runs;
      complete = λ code h. complete_more c.self.inside.texts c.args.text.now old new c.args.code next c.self.invariant.complete more code (subst (λ ts. code < length ts) grown h);
    }
