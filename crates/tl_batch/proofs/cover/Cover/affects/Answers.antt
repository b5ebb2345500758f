use Rattle.std.proofs.Common.{rules, true, sym, ap, ◌∙◌, w64, FitsSigned}
use Rattle.std.proofs.lemmas.Int.{to_z-of_z}
use Rattle.std.specs.List.{list_any}
use Rattle.tl_batch.specs.Pieces.{affects_period}
use Rattle.tl_batch.proofs.WholeLemmas.{none_affected}
use Rattle.tl_batch.proofs.OverlapLemmas.{one_affects}
use Rattle.tl_batch.proofs.cover.Cover.affects.Goals as goal

pub returns-in_default : goal.returns-in_default
returns-in_default c = λ lines full same. sym (ap (λ w. list_any (λ line. affects_period true line w) lines) c.in_default.is ∙ none_affected lines)

pub returns-in-One : goal.returns-in-One
returns-in-One c = λ lines full same.
    let e : FitsSigned w64 c.in-One.end = search rules in
    let s : FitsSigned w64 c.in-One.start = search rules in
    one_affects lines c.args.whole.now c.in-Some.period c.meets.result _ _ c.in-One.end c.in-One.start c.self.inside.stretches c.args.self.now c.in-Some.is (to_z-of_z w64 c.in-One.end e) (to_z-of_z w64 c.in-One.start s) c.in-One.is c.self.view_is c.meets.ensures full same
