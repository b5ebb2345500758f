use Rattle.std.proofs.Common.{◌≡◌, ap₂, ◌∙◌, rules, w64, SFits}
use Rattle.std.proofs.lemmas.Int.{to_z-of_z}
use Rattle.std.specs.Int.{int_min, int_max}
use Rattle.tl_query.specs.Aggregates.{span_start, span_end}
use Rattle.tl_query.specs.Joins.{pair_from}
use Rattle.tl_plain.proofs.joins.common_pair.Goals as goal

pub returns-in-Some-second : goal.returns-in-Some-second
returns-in-Some-second c =
    let a : SFits w64 c.from.result = search rules in
    let b : SFits w64 c.from-in-Some-second.result = search rules in
    let d : SFits w64 c.max.result = search rules in
    let e : SFits w64 c.span_start.result = search rules in
    let f : SFits w64 c.max-from.result = search rules in
    let g : SFits w64 c.to.result = search rules in
    let h : SFits w64 c.to-in-Some-second.result = search rules in
    let i : SFits w64 c.min.result = search rules in
    let j : SFits w64 c.span_end.result = search rules in
    let k : SFits w64 c.min-to.result = search rules in
    let first = c.in-Some.first in
    let second = c.in-Some-second.second in
    let low : c.max.result ≡ int_max c.from.result c.from-in-Some-second.result = rw (to_z-of_z w64 c.from.result a, to_z-of_z w64 c.from-in-Some-second.result b) at c.max.ensures.value in
    let lower : c.max-from.result ≡ int_max c.max.result c.span_start.result = rw (to_z-of_z w64 c.max.result d, to_z-of_z w64 c.span_start.result e) at c.max-from.ensures.value in
    let high : c.min.result ≡ int_min c.to.result c.to-in-Some-second.result = rw (to_z-of_z w64 c.to.result g, to_z-of_z w64 c.to-in-Some-second.result h) at c.min.ensures.value in
    let higher : c.min-to.result ≡ int_min c.min.result c.span_end.result = rw (to_z-of_z w64 c.min.result i, to_z-of_z w64 c.span_end.result j) at c.min-to.ensures.value in
    let made : c.pair_from.result ≡ pair_from c.args.left c.args.right c.max-from.result c.min-to.result = rw (to_z-of_z w64 c.max-from.result f, to_z-of_z w64 c.min-to.result k) at c.pair_from.ensures in
    let begins : c.max-from.result ≡ int_max (int_max first.from second.from) (span_start c.args.span) = lower ∙ ap₂ int_max (low ∙ ap₂ int_max c.from.ensures c.from-in-Some-second.ensures) c.span_start.ensures in
    let ends : c.min-to.result ≡ int_min (int_min first.to second.to) (span_end c.args.span) = higher ∙ ap₂ int_min (high ∙ ap₂ int_min c.to.ensures c.to-in-Some-second.ensures) c.span_end.ensures in
    rw (c.in-Some.is, c.in-Some-second.is) (made ∙ ap₂ (pair_from c.args.left c.args.right) begins ends)
