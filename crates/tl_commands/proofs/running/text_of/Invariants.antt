use Rattle.std.proofs.Common.{◌≡◌, ◌++◌, map, take, length}
use Rattle.tl_jobs.specs.Jobs.{job_of}
use Rattle.tl_commands.specs.Running.{replies_bytes}
use Rattle.tl_commands.proofs.running.text_of.Given as goal

-- the text so far
abbrev pub invariant-loop-reply : goal.invariant-loop-reply
invariant-loop-reply g l = record {
  rest : l.yielded ++ l.reply-iterator.rest.items ≡ l.fn.replies.items;
  count : l.i ≡ length l.yielded;
  text : l.text.items ≡ replies_bytes (g.P.Phases.coming l.phases).names (map job_of (take l.i l.jobs)) l.yielded;
}
