use Rattle.std.proofs.Common.{refl, arith, w64, SFits, rules}
use Rattle.std.proofs.lemmas.Int.{to_z-of_z, ints}
use Rattle.tl_running.proofs.PileLemmas.{no_number, exchanged, swapped}
use Rattle.tl_running.proofs.pile.exchange.Goals as goal

pub unreachable-requires : goal.unreachable-requires
unreachable-requires c = no_number c.args.near.now.numbers c.requires.some c.in_default.ensures.none

pub returns-then-number-top : goal.returns-then-number-top
returns-then-number-top c =
    let fits : SFits w64 c.in-Some.top = search rules in
    let whole = to_z-of_z w64 c.in-Some.top fits in
    let own = to_z-of_z w64 c.args.number c.ranges.number in
    let one = rw own at c.push.ensures.joins in
    let two = rw whole at c.push-then-number-top.ensures.joins in
    let more = rw (own, whole) at c.if-number-top.true in
    rw own (record {
      fills = exchanged c.args.near.now c.pop.new.self c.push.new.self c.args.far.now c.push-then-number-top.new.self c.args.bound c.args.number c.in-Some.top c.args.number c.in-Some.top
          c.requires.pile c.in-Some.ensures.top c.in-Some.ensures.some c.pop.ensures.room one c.push.ensures.room two c.push-then-number-top.ensures.room
          (λ v. refl) (omega (arith, ints)) (omega (arith, ints));
    })

pub returns : goal.returns
returns c =
    let fits : SFits w64 c.in-Some.top = search rules in
    let whole = to_z-of_z w64 c.in-Some.top fits in
    let own = to_z-of_z w64 c.args.number c.ranges.number in
    let one = rw whole at c.push-2.ensures.joins in
    let two = rw own at c.push-3.ensures.joins in
    let less = rw (own, whole) at c.if-number-top.false in
    rw whole (record {
      fills = exchanged c.args.near.now c.pop.new.self c.push-2.new.self c.args.far.now c.push-3.new.self c.args.bound c.args.number c.in-Some.top c.in-Some.top c.args.number
          c.requires.pile c.in-Some.ensures.top c.in-Some.ensures.some c.pop.ensures.room one c.push-2.ensures.room two c.push-3.ensures.room
          (swapped c.in-Some.top c.args.number) (omega (arith, ints)) (omega (arith, ints));
    })
