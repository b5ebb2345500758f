use Rattle.std.proofs.Common.{sym}
use Rattle.tl_csv.proofs.SeparatorLemmas.{last_line}
use Rattle.tl_csv.proofs.lent_blocks.ends_line.Goals as goal

pub returns-in-Some : goal.returns-in-Some
returns-in-Some c = λ is. last_line c.args.bytes.now c.in-Some.last.now (rw c.in-Some.is at (sym c.last.ensures.value)) is
