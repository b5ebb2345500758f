use Rattle.std.proofs.Common.{subst, sym, ◌∙◌}
use Rattle.tl_running.specs.Lasting.{LastingRows, Takes}
use Rattle.tl_running.proofs.LastingLemmas.{takes_covered}
use Rattle.tl_running.proofs.lasting_heap.LastingHeap.put.Goals as goal

pub returns-then-is_covered : goal.returns-then-is_covered
returns-then-is_covered c =
    subst (λ (k : LastingRows). Takes k k c.args.row) c.self.view_is
    (takes_covered (record { rows = c.self.inside.rows.data.items; cover = c.self.inside.cover }) c.args.row (sym c.covers-is_covered.ensures ∙ c.if-is_covered.true))
