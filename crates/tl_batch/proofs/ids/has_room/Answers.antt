use Rattle.std.proofs.Common.{arith, sym, length, ◌-◌}
use Rattle.std.proofs.lemmas.Option.{slice_get_within}
use Rattle.tl_batch.proofs.KeyIndexLemmas.{ascends_more}
use Rattle.tl_batch.proofs.ids.has_room.Goals as goal

pub returns-then-last-id : goal.returns-then-last-id
returns-then-last-id c = λ short.
    let within = slice_get_within c.args.few.now (length c.args.few.now - 1) c.in-Some.last.now (sym c.in-Some.ensures.value) in
    ascends_more 0 (length c.args.few.now - 1) c.args.id c.in-Some.last.now c.args.few.now (omega arith) (sym c.in-Some.ensures.value) c.if-last-id.true
