use Rattle.std.proofs.Common.{w64, SFits, rules}
use Rattle.std.proofs.lemmas.Int.{to_z-of_z}
use Rattle.tl_running.proofs.PileLemmas.{refill_above, refill_mends}
use Rattle.tl_running.proofs.pile.refill.Goals as goal

pub spread-requires-clause-above : goal.spread-requires-clause-above
spread-requires-clause-above c =
    let fits : SFits w64 c.take-number.result = search rules in
    let into = rw (to_z-of_z w64 c.take-number.result fits) at c.push.ensures.joins in
    refill_above c.args.near.now c.args.far.now c.push.new.self c.take-number.new.self c.greatest_place-place.result c.take-number.result c.greatest_place-place.ensures c.take-number.ensures.there c.take-number.ensures.joins into

pub returns : goal.returns
returns c =
    let fits : SFits w64 c.take-number.result = search rules in
    let into = rw (to_z-of_z w64 c.take-number.result fits) at c.push.ensures.joins in
    let new_fits : SFits w64 c.spread.result = search rules in
    let new = to_z-of_z w64 c.spread.result new_fits in
    rw new (record {
      mends = refill_mends c.args.near.now c.args.far.now c.push.new.self c.take-number.new.self c.spread.new.near c.spread.new.far c.take-number.result c.spread.result
          c.take-number.ensures.joins c.take-number.ensures.room into c.push.ensures.room c.spread.ensures.mends;
    })
