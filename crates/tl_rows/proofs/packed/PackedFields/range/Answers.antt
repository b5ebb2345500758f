use Rattle.tl_rows.proofs.PackedLemmas.{range_shown}
use Rattle.tl_rows.proofs.packed.PackedFields.range.Goals as goal

pub returns : goal.returns
returns c =
    rw (← c.self.view_is, ← c.as_slice.ensures.value, ← c.as_slice-2.ensures.value, ← c.deref.ensures.value) (range_shown c.as_slice.result.now c.as_slice-2.result.now c.deref.result.now c.args.start c.args.end)
