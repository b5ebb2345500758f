use Rattle.tl_batch.proofs.BehindLemmas.{behind_back, behind_held}
use Rattle.tl_batch.proofs.opening.push_behind.Goals as goal

pub returns-clause-back : goal.returns-clause-back
returns-clause-back c = λ lines held. behind_back c.args.schema.now lines c.key.result c.args.line.now.cells c.cells-cells.result.now c.index-cells-key.result c.args.line.now.period c.period-whole.result c.in_ok-parts.parts.items _ c.as_slice.result.now c.args.back.now.items c.push_over.new.opens.items
    c.requires.valid c.period-whole.ensures c.cells-cells.ensures.value c.key.ensures.value c.requires.keyed c.index-cells-key.is (c.in_ok-parts.ensures.lines lines held) c.reverse_parts.ensures c.as_slice.ensures c.in_ok-push_over.ensures

pub returns-clause-held : goal.returns-clause-held
returns-clause-held c = λ lines held. behind_held c.args.schema.now lines c.key.result c.args.line.now c.cells-cells.result.now c.index-cells-key.result c.period-whole.result c.args.periods.now c.cut.new.self
    c.cells-cells.ensures.value c.period-whole.ensures c.key.ensures.value c.requires.keyed c.index-cells-key.is held c.in_ok-parts.ensures.held c.in_ok-parts.ensures.full
