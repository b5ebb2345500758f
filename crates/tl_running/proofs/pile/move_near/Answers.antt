use Rattle.std.proofs.Common.{arith, w64, SFits, rules}
use Rattle.std.proofs.lemmas.Int.{to_z-of_z}
use Rattle.tl_running.proofs.PileLemmas.{moves_more, seen_kept, all_get}
use Rattle.tl_running.proofs.pile.move_near.Goals as goal

pub numbers-preserved : goal.numbers-preserved
numbers-preserved c =
    let fits : SFits w64 c.take-number.result = search rules in
    let whole = to_z-of_z w64 c.take-number.result fits in
    let own = to_z-of_z w64 c.args.bound c.ranges.bound in
    let inv = rw own at c.numbers.invariant in
    let into = rw whole at c.push.ensures.joins in
    rw own (record {
      moves = moves_more c.args.near.now c.args.far.now c.numbers.near c.numbers.far c.push.new.self c.take-number.new.self c.take-number.result inv.moves c.take-number.ensures.joins c.take-number.ensures.room into c.push.ensures.room;
      seen = seen_kept c.numbers.far.numbers c.take-number.new.self.numbers c.numbers.i c.args.bound inv.seen c.take-number.ensures.before;
    })

pub returns-clause-all : goal.returns-clause-all
returns-clause-all c is =
    let own = to_z-of_z w64 c.args.bound c.ranges.bound in
    let inv = rw own at c.numbers.invariant in
    let len = c.len.ensures.len in
    let end = c.numbers-test.false in
    all_get c.numbers.far.numbers c.args.bound (λ k x lt got. inv.seen k x (omega arith) got)
