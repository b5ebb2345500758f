use Rattle.std.proofs.Common.{rules, arith}
use Rattle.tl_session.proofs.SharedLemmas.{fresh_pushed, parts_pushed, length_pushed}
use Rattle.tl_session.proofs.phases.sessions_of.Goals as goal

pub loop-author-preserved : goal.loop-author-preserved
loop-author-preserved g c =
    let xs = c.loop-author.sessions.items in
    let ys = c.push_reserved.new.self.items in
    let i = c.loop-author.invariant in
    let parts = parts_pushed xs ys _ c.push_reserved.ensures.items in
    let long = length_pushed xs ys _ c.push_reserved.ensures.items in
    (search rules, search rules, fresh_pushed c.args.pass.now.seen xs ys _ c.push_reserved.ensures.items i.2 (search rules) (search rules) (search rules) (search rules) (search rules), omega (arith, long, i.3), omega (arith, parts, i.4, c.new-session.ensures.parts, c.split_off.ensures.parts, c.split_off.ensures.parts_left), search rules, search rules, search rules)
