use Rattle.std.proofs.Common.{◌≡◌, ◌/◌}
use Rattle.std.proofs.lemmas.List.Elements.{All-more}
use Rattle.tl_shared.proofs.list.places_in_chunk.Goals as goal

pub loop-count-preserved : goal.loop-count-preserved
loop-count-preserved g c =
    All-more (λ place. place / g.row.SIZE ≡ c.args.i) c.args.places.now c.loop-count.count 0 c.loop-count-test.true c.loop-count.invariant c.if-place-i.false
