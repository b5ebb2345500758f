use Rattle.std.proofs.Common.{map}
use Rattle.tl_batch.proofs.FreshKeys.{none_of_puts}
use Rattle.tl_batch.proofs.untimed.first_missing_row.Goals as goal

pub returns-then-not-removes : goal.returns-then-not-removes
returns-then-not-removes c = λ place rows stand. none_of_puts c.args.removes place rows 2 (map (λ k. k.now) c.args.keys.now) c.if-not-removes.true
