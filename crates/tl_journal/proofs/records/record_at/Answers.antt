use Rattle.std.proofs.Common.{rules, sym}
use Rattle.tl_journal.proofs.Scans.{begins_there, no_more}
use Rattle.tl_journal.proofs.records.record_at.Goals as goal

pub returns-then-decoded-bytes-clause-some : goal.returns-then-decoded-bytes-clause-some
returns-then-decoded-bytes-clause-some c = begins_there _ _ _ _ _ c.in-Ok.ensures.ok.1 c.in-Ok.ensures.end

pub returns-else-decoded-bytes-clause-none : goal.returns-else-decoded-bytes-clause-none
returns-else-decoded-bytes-clause-none c is = no_more _ _ _ _ c.in-Ok.ensures.end (search rules) (search rules) (λ d rest b. sym (c.in-Ok.ensures.found d rest b))
