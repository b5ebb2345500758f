use Rattle.std.proofs.Common.{map}
use Rattle.tl_csv.proofs.WritingLemmas.{whole_row}
use Rattle.tl_csv.proofs.answers.put_row.Goals as goal

pub returns-clause-row : goal.returns-clause-row
returns-clause-row c =
    whole_row c.args.writer.now c.write_fields.new.self (map (λ f. f.now) c.args.fields.now) c.requires c.in-Ok.ensures.bytes
