use Rattle.std.proofs.Common.{◌≡◌, ◌*◌, ◌/◌, ◌%◌, length, take, drop, min, ap, ◌∙◌, subst, arith}
use Rattle.std.proofs.lemmas.List.{length-take, length-drop}
use Rattle.tl_events.proofs.TickedLemmas.{run_part, run_len}
use Rattle.tl_events.proofs.ticked.TickedList+T+CHUNK.run.Goals as goal

pub split_at-requires : goal.split_at-requires
split_at-requires g c =
    let items = c.self.inside.items in
    let before = 1024 * (c.args.from / 1024) in
    let all = ap length c.self.view_is in
    let long = ap length c.chunk.ensures ∙ length-take 1024 (drop before items) ∙ ap (min 1024) (length-drop before items) in
    let some = c.requires.some in
    let within = c.requires.within in
    omega arith

pub returns-clause-run : goal.returns-clause-run
returns-clause-run g c =
    let items = c.self.inside.items in
    let all = ap length c.self.view_is in
    let some = c.requires.some in
    let within = c.requires.within in
    subst (λ list. c.split_at-2.result.0.now ≡ take (length c.split_at-2.result.0.now) (drop c.args.from list)) c.self.view_is
    (run_part items c.chunk.result.now c.split_at.result.1.now c.split_at-2.result.0.now 1024 (c.args.from / 1024) (c.args.from % 1024) c.args.from c.args.to c.min.result
    c.chunk.ensures c.split_at.ensures.back c.split_at-2.ensures.front (omega arith) (omega arith) some (omega arith) c.min.ensures)

pub returns-clause-len : goal.returns-clause-len
returns-clause-len g c =
    let items = c.self.inside.items in
    let all = ap length c.self.view_is in
    let some = c.requires.some in
    let within = c.requires.within in
    run_len items c.chunk.result.now c.split_at.result.1.now c.split_at-2.result.0.now 1024 (c.args.from / 1024) (c.args.from % 1024) c.args.from c.args.to c.min.result
    c.chunk.ensures c.split_at.ensures.back c.split_at-2.ensures.front (omega arith) (omega arith) some (omega arith) c.min.ensures
