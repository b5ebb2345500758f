use Rattle.std.proofs.Common.{w64, SFits, rules}
use Rattle.std.proofs.lemmas.Int.{to_z-of_z}
use Rattle.tl_running.proofs.PileLemmas.{no_number, spread_mends}
use Rattle.tl_running.proofs.pile.spread.Goals as goal

pub unreachable-requires : goal.unreachable-requires
unreachable-requires c = no_number c.args.near.now.numbers c.requires.some c.in_default.ensures.none

pub returns : goal.returns
returns c =
    let fits : SFits w64 c.in-Some.top = search rules in
    let top = to_z-of_z w64 c.in-Some.top fits in
    let low_fits : SFits w64 c.move_share-holds.result.1 = search rules in
    let low = to_z-of_z w64 c.move_share-holds.result.1 low_fits in
    let new_fits : SFits w64 c.lower.result = search rules in
    let new = to_z-of_z w64 c.lower.result new_fits in
    let all = c.move_share-holds.ensures.all in
    let lower = rw (low, top) at c.lower.ensures in
    rw new (record {
      mends = spread_mends c.args.near.now c.args.far.now c.move_share-holds.new.near c.move_share-holds.new.far c.in-Some.top c.move_share-holds.result.1 c.lower.result c.move_share-holds.result.0
          c.requires.some c.requires.above c.requires.room c.in-Some.ensures.some c.move_share-holds.ensures.moves all lower;
    })
