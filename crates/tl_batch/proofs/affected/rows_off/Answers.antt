use Rattle.std.proofs.Common.{◌≡◌, ◌∷◌, [], Some, arith, ap, ◌∙◌, get_or, w64, of_z, to_z}
use Rattle.std.proofs.lemmas.Int.{to_z-of_z}
use Rattle.tl_batch.specs.Covers.{is_covered}
use Rattle.tl_batch.proofs.AffectLemmas.{apart_here, apart_next, apart_end, timed_here}
use Rattle.tl_batch.proofs.affected.rows_off.Goals as goal

pub period_at-period-requires-clause-row : goal.period_at-period-requires-clause-row
period_at-period-requires-clause-row g c = c.requires.rows c.loop-i.i 0 (omega arith)

pub returns-then-met : goal.returns-then-met
returns-then-met g c = λ lines full same.
    let shown : (to_z w64 (of_z w64 c.args.end), to_z w64 (of_z w64 c.args.start)) ∷ [] ≡ (c.args.end, c.args.start) ∷ [] = ap (λ z. (z, to_z w64 (of_z w64 c.args.start)) ∷ []) (to_z-of_z w64 c.args.end c.ranges.end) ∙ ap (λ z. (c.args.end, z) ∷ []) (to_z-of_z w64 c.args.start c.ranges.start) in
    apart_here lines c.args.table.now.rows c.args.rows.now c.loop-i.i c.meets-met.result (Some c.period_at-period.result) (omega arith) (timed_here c.args.table.now.rows (get_or c.args.rows.now c.loop-i.i 0) c.period_at-period.result (c.requires.rows c.loop-i.i 0 (omega arith)) c.period_at-period.ensures) (c.meets-met.ensures lines full (λ t. ap (is_covered t) shown ∙ same t)) c.if-met.true (c.loop-i.invariant lines full (λ t. ap (is_covered t) shown ∙ same t))

pub loop-i-preserved : goal.loop-i-preserved
loop-i-preserved g c = λ lines full same. apart_next lines c.args.table.now.rows c.args.rows.now c.loop-i.i c.meets-met.result (Some c.period_at-period.result) (omega arith) (timed_here c.args.table.now.rows (get_or c.args.rows.now c.loop-i.i 0) c.period_at-period.result (c.requires.rows c.loop-i.i 0 (omega arith)) c.period_at-period.ensures) (c.meets-met.ensures lines full same) c.if-met.false (c.loop-i.invariant lines full same)

pub returns : goal.returns
returns g c = λ lines full same.
    let shown : (to_z w64 (of_z w64 c.args.end), to_z w64 (of_z w64 c.args.start)) ∷ [] ≡ (c.args.end, c.args.start) ∷ [] = ap (λ z. (z, to_z w64 (of_z w64 c.args.start)) ∷ []) (to_z-of_z w64 c.args.end c.ranges.end) ∙ ap (λ z. (c.args.end, z) ∷ []) (to_z-of_z w64 c.args.start c.ranges.start) in
    apart_end lines c.args.table.now.rows c.args.rows.now c.loop-i.i (omega arith) (omega arith) (c.loop-i.invariant lines full (λ t. ap (is_covered t) shown ∙ same t))
