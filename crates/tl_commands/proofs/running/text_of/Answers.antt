use Rattle.std.proofs.Common.{◌≡◌, ◌+◌, ◌++◌, ◌∷◌, [], ◌<◌, ap, arith, length}
use Rattle.std.proofs.lemmas.List.{length-append}
use Rattle.tl_commands.proofs.RunningLemmas.{one_done, text_more}
use Rattle.tl_commands.proofs.running.text_of.Goals as goal

pub loop-reply-preserved : goal.loop-reply-preserved
loop-reply-preserved g c =
    let names = (g.P.Phases.coming c.args.phases.now).names in
    let jobs = c.args.jobs.now in
    let done = c.loop-reply.yielded in
    let was = c.loop-reply.invariant in
    let rest = one_done done c.loop-reply.reply-iterator.rest.items c.next.new.self.rest.items c.args.replies.items c.in-Some.reply c.in-Some.ensures.steps.0 was.rest in
    let count = length-append done (c.in-Some.reply ∷ []) in
    let all = length-append (done ++ c.in-Some.reply ∷ []) c.next.new.self.rest.items in
    let len = ap length rest in
    let each = c.requires.each in
    let there : c.loop-reply.i < length jobs = omega arith in
    record {
      rest = rest;
      count = omega arith;
      text = text_more names jobs c.loop-reply.i _ done c.in-Some.reply c.loop-reply.text.items c.put_owned.new.text.items c.as_bytes.result.now c.session_name-name.result.now there was.count c.session_name-name.ensures c.as_bytes.ensures.value was.text c.in_ok-put_owned.ensures;
    }
