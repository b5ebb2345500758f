use Rattle.std.proofs.Common.{arith, ◌≡◌, ◌<◌, ◌∙◌, drop, length, refl, subst, sym}
use Rattle.tl_ckpt.specs.Valid.{Rises, merged}
use Rattle.tl_ckpt.specs.Runs.{sum_of}
use Rattle.tl_ckpt.proofs.RunLemmas.{rise_at, taken_so}
use Rattle.tl_ckpt.proofs.valid_events.gathered.Goals as goal

pub runs-init : goal.runs-init
runs-init c = record { within = omega arith; rises = c.requires.changes; sum = refl }

pub merged_with-requires-clause-run : goal.merged_with-requires-clause-run
merged_with-requires-clause-run c =
    subst Rises (sym (c.as_slice.ensures ∙ c.index-runs-i.is)) (rise_at c.args.runs.now c.runs.i c.index-runs-i.result c.requires.runs (omega arith))

pub runs-preserved : goal.runs-preserved
runs-preserved c =
    let here : c.runs.i < length c.args.runs.now = omega arith in
    let was = c.runs.invariant in
    let step = taken_so c.args.runs.now (merged (sum_of c.args.runs.now) c.args.changes.items) c.runs.out.items c.deref.result.now c.as_slice.result.now c.in_ok-out.out.items c.runs.i c.index-runs-i.result c.requires.runs was.rises here c.index-runs-i.is c.as_slice.ensures c.deref.ensures.value c.in_ok-out.ensures was.sum in
    record { within = omega arith; rises = step.1; sum = step.0 }

pub returns-clause-rises : goal.returns-clause-rises
returns-clause-rises c = c.runs.invariant.rises

pub returns-clause-sum : goal.returns-clause-sum
returns-clause-sum c =
    let done : c.runs.i ≡ c.args.count = omega arith in
    subst (λ k. merged (sum_of (drop k c.args.runs.now)) c.runs.out.items ≡ merged (sum_of c.args.runs.now) c.args.changes.items) done c.runs.invariant.sum
