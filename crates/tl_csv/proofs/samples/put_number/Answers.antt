use Rattle.std.proofs.Common.{◌-◌, arith, length-set}
use Rattle.std.proofs.lemmas.Fmt.{length-decimal-le}
use Rattle.tl_csv.proofs.samples.put_number.Goals as goal

pub write_digits-requires : goal.write_digits-requires
write_digits-requires c = (omega (arith, c.from.ensures, c.requires, length-decimal-le 10 c.from.result (omega arith) (omega arith) (omega arith)), omega (arith, c.requires, length-set c.args.line.now (c.args.end - 1) c.args.behind))

pub returns-clause-start : goal.returns-clause-start
returns-clause-start c = omega (arith, c.requires, c.write_digits.ensures.start, length-decimal-le 10 c.from.result (omega arith) (omega arith) (omega arith))
