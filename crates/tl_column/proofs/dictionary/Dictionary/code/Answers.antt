use Rattle.std.proofs.Common.{◌≡◌, ◌<◌, length, get_or, sym, ap, ◌∙◌, subst, arith, rules}
use Rattle.std.proofs.lemmas.List.{take_all}
use Rattle.tl_shared.specs.Chunks.{flatten}
use Rattle.tl_column.specs.Dictionary.{code_in}
use Rattle.tl_column.specs.Runs.{IsRun, LacksText}
use Rattle.tl_column.proofs.RunFacts.{run_at, lacks_more}
use Rattle.tl_column.proofs.Coding.{one_code, nothing_found}
use Rattle.tl_column.proofs.dictionary.Dictionary.code.Goals as goal

pub code_in_run-requires : goal.code_in_run-requires
code_in_run-requires c =
    let runs = c.self.inside.runs.items in
    let here : c.searching.run-index < length runs = omega (arith, ap length c.as_slice-run-items.ensures.value) in
    let run : get_or runs c.searching.run-index c.run-item.result ≡ c.as_slice.result.now =
    sym (c.as_slice.ensures ∙ rw c.as_slice-run-items.ensures.value at c.run-item.is) in
    subst (λ xs. IsRun c.self.inside.texts xs) run
    (run_at c.self.inside.texts runs c.searching.run-index c.run-item.result c.self.invariant.sorted here)

pub returns-in-Some : goal.returns-in-Some
returns-in-Some c =
    sym (one_code c.self.inside.texts c.args.text.now c.in-Some.code c.self.invariant.distinct c.in-Some.ensures.valid c.in-Some.ensures.found)
    ∙ ap (λ texts. code_in texts c.args.text.now) c.self.view_is

pub searching-preserved : goal.searching-preserved
searching-preserved c =
    let runs = c.self.inside.runs.items in
    let here : c.searching.run-index < length runs = omega (arith, ap length c.as_slice-run-items.ensures.value) in
    let run : get_or runs c.searching.run-index c.run-item.result ≡ c.as_slice.result.now =
    sym (c.as_slice.ensures ∙ rw c.as_slice-run-items.ensures.value at c.run-item.is) in
    let lacks : LacksText c.self.inside.texts c.args.text.now c.as_slice.result.now = c.in_default.ensures.absent (search rules) in
    lacks_more c.self.inside.texts c.args.text.now runs c.searching.run-index c.run-item.result c.searching.invariant here
    (subst (λ xs. LacksText c.self.inside.texts c.args.text.now xs) (sym run) lacks)

pub returns : goal.returns
returns c =
    let runs = c.self.inside.runs.items in
    let all = take_all c.searching.run-index runs (omega (arith, ap length c.as_slice-run-items.ensures.value)) in
    let lacks : LacksText c.self.inside.texts c.args.text.now (flatten runs) =
    subst (λ ps. LacksText c.self.inside.texts c.args.text.now (flatten ps)) all c.searching.invariant in
    nothing_found c.self.inside.texts c.args.text.now (flatten runs) c.self.invariant.complete lacks
    ∙ ap (λ texts. code_in texts c.args.text.now) c.self.view_is
