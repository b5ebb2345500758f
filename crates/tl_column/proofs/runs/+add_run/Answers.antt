use Rattle.std.proofs.Common.{◌≡◌, ◌++◌, ◌∷◌, [], sym, ap, ◌∙◌, arith}
use Rattle.tl_shared.specs.Chunks.{flatten}
use Rattle.tl_shared.proofs.Pieces.{flatten_more}
use Rattle.tl_column.specs.Runs.{times}
use Rattle.tl_column.proofs.RunFacts.{runs_more, runs_front, runs_last, times_append}
use Rattle.tl_column.proofs.runs.+add_run.Goals as goal

pub merged-requires-clause-left : goal.merged-requires-clause-left
merged-requires-clause-left t c =
    let sorted = rw c.in-Some.ensures.items at c.requires.runs in
    rw c.as_slice-in-Some-2.ensures (runs_last c.args.texts.now c.pop.new.self.items c.in-Some.last sorted)

pub add_run-requires : goal.add_run-requires
add_run-requires t c =
    let sorted = rw c.in-Some.ensures.items at c.requires.runs in
    (omega (arith, c.in-Some.ensures.len), (runs_front c.args.texts.now c.pop.new.self.items c.in-Some.last sorted, c.in_ok-run-in-Some-2.ensures.run))

pub returns-in_ok-push-in-Some-2-clause-runs : goal.returns-in_ok-push-in-Some-2-clause-runs
returns-in_ok-push-in-Some-2-clause-runs t c =
    let runs = c.args.runs.now.items in
    let all : c.push-in-Some-2.new.self.items ≡ runs ++ c.args.run.items ∷ [] =
    c.in_ok-push-in-Some-2.ensures.items
    ∙ ap (λ t. t ++ c.in_ok-new-in-Some.field-0 ∷ []) (c.in_ok-push-in-Some.ensures.items ∙ sym c.in-Some.ensures.items)
    ∙ ap (λ r. runs ++ r ∷ []) c.in_ok-new-in-Some.ensures in
    rw all (runs_more c.args.texts.now runs c.args.run.items c.requires.runs c.requires.run)

pub returns-in_ok-push-in-Some-2-clause-all : goal.returns-in_ok-push-in-Some-2-clause-all
returns-in_ok-push-in-Some-2-clause-all t c =
    let runs = c.args.runs.now.items in
    let all : c.push-in-Some-2.new.self.items ≡ runs ++ c.args.run.items ∷ [] =
    c.in_ok-push-in-Some-2.ensures.items
    ∙ ap (λ t. t ++ c.in_ok-new-in-Some.field-0 ∷ []) (c.in_ok-push-in-Some.ensures.items ∙ sym c.in-Some.ensures.items)
    ∙ ap (λ r. runs ++ r ∷ []) c.in_ok-new-in-Some.ensures in
    λ code. ap (λ ps. times code (flatten ps)) all
    ∙ ap (times code) (flatten_more 0 runs c.args.run.items)
    ∙ times_append c.args.texts.now code (flatten runs) c.args.run.items

pub returns-in_ok-add_run-in-Some-2-clause-all : goal.returns-in_ok-add_run-in-Some-2-clause-all
returns-in_ok-add_run-in-Some-2-clause-all t c =
    let front = c.pop.new.self.items in
    let last = c.in-Some.last in
    λ code.
    let both = ap (λ ps. times code (flatten ps)) c.in-Some.ensures.items ∙ ap (times code) (flatten_more 0 front last) ∙ times_append c.args.texts.now code (flatten front) last in
    omega (arith, both, c.in_ok-add_run-in-Some-2.ensures.all code, c.in_ok-run-in-Some-2.ensures.all code, ap (times code) c.as_slice-in-Some-2.ensures, ap (times code) c.as_slice-in-Some-2-2.ensures.value)
