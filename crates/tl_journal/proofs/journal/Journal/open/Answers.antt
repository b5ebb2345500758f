use Rattle.std.proofs.Common.{ap, Err}
use Rattle.tl_journal.proofs.journal.Journal.open.Goals as goal

pub returns-in-Err-clause-too_short : goal.returns-in-Err-clause-too_short
returns-in-Err-clause-too_short g c len is = c.in-Err.ensures.too_short len (ap (λ e. Err e) is)

pub returns-in-Err-clause-no_less : goal.returns-in-Err-clause-no_less
returns-in-Err-clause-no_less g c len is = c.in-Err.ensures.no_less len (ap (λ e. Err e) is)

pub returns-in-Err-clause-no_memory : goal.returns-in-Err-clause-no_memory
returns-in-Err-clause-no_memory g c is = c.in-Err.ensures.no_memory (ap (λ e. Err e) is)
