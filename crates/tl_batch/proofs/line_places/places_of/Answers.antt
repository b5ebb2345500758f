use Rattle.std.proofs.Common.{◌<◌, ◌≤◌, length, get_or, subst, sym, ap, ◌∙◌, w64, arith, rules}
use Rattle.std.proofs.lemmas.Int.{to_z-of_z}
use Rattle.tl_types.specs.Plain as plain
use Rattle.tl_batch.specs.Syncing.{start_of}
use Rattle.tl_batch.proofs.StartLemmas.{all_placed, placed_more}
use Rattle.tl_batch.proofs.line_places.places_of.Goals as goal

pub loop-i-preserved : goal.loop-i-preserved
loop-i-preserved c =
    placed_more c.args.place c.args.lines.now c.loop-i.i c.index-lines-i.result c.index-cells-place.result c.start_of.result c.loop-i.places c.put.new.self c.requires.own (omega arith) c.index-lines-i.is
    (subst (λ (l : plain.Opened). c.args.place < length l.cells) (sym c.index-lines-i.is) (c.requires.keyed c.loop-i.i c.index-lines-i.result (omega arith)))
    (c.index-cells-place.is ∙ ap (λ xs. get_or xs c.args.place c.index-cells-place.result) c.cells.ensures.value) (c.start_of.ensures ∙ ap start_of c.period-period.ensures) (rw (to_z-of_z w64 c.start_of.result (search rules)) at c.in_ok-put.ensures) c.loop-i.invariant

pub returns : goal.returns
returns c = all_placed c.args.place c.args.lines.now c.loop-i.i c.loop-i.places (let h = c.loop-i-test.false in omega arith) c.loop-i.invariant
