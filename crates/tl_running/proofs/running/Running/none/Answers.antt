use Rattle.std.proofs.Common.{refl}
use Rattle.tl_running.proofs.HeapLemmas.{none_bag}
use Rattle.tl_running.proofs.running.Running.none.Goals as goal

pub returns-clause-stands : goal.returns-clause-stands
returns-clause-stands c = λ column. record { count = refl; sum = refl; short = tt; bag = λ ordered. none_bag c.args.kind c.none.result c.none.ensures }
