use Rattle.std.proofs.Common.{arith}
use Rattle.tl_running.proofs.PileLemmas.{greatest_at, greater_within, seen_more}
use Rattle.tl_running.proofs.pile.greatest_place.Goals as goal

pub numbers-preserved : goal.numbers-preserved
numbers-preserved c =
    let inv = c.numbers.invariant in
    let within = inv.within in
    let len = c.len.ensures.len in
    let next = c.numbers-test.true in record {
      within = greater_within c.args.far.now.numbers c.numbers.place c.numbers.i c.greater_place-place.result within (omega arith) c.greater_place-place.ensures;
      begun = omega arith;
      seen = seen_more c.args.far.now.numbers c.numbers.i c.numbers.place c.greater_place-place.result within inv.seen c.greater_place-place.ensures;
    }

pub returns : goal.returns
returns c =
    let len = c.len.ensures.len in
    let end = c.numbers-test.false in
    greatest_at c.args.far.now.numbers c.numbers.i c.numbers.place c.numbers.invariant.within (omega arith) c.numbers.invariant.seen
