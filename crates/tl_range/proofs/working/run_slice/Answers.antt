use Rattle.std.proofs.Common.{◌≡◌, Ok, Some, slice_get}
use Rattle.std.proofs.lemmas.Option.{slice_get_within}
use Rattle.tl_types.specs.declared.runs.Piece.{Piece}
use Rattle.tl_range.proofs.ForkLemmas.{value_at}
use Rattle.tl_range.proofs.working.run_slice.Goals as goal

pub returns-clause-each : goal.returns-clause-each
returns-clause-each g c = λ i p out piece here.
    let inside = slice_get_within c.args.pieces.now i p piece in
    let e = c.in_ok-results.ensures.each i (Ok out) inside in
    value_at (λ o. (q : Piece) → slice_get c.args.pieces.now i ≡ Some q → g.W.PieceWork.gives c.args.work.now i q o) c.in_ok-results.results.items c.in_ok-outs.outs.items i out c.in_ok-outs.ensures here e.1.met p piece
