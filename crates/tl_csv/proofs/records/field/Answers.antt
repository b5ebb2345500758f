use Rattle.std.proofs.Common.{◌∙◌}
use Rattle.csv.specs.Records.{fields_of}
use Rattle.tl_csv.proofs.FaultLemmas.{same_field}
use Rattle.tl_csv.proofs.records.field.Goals as goal

pub returns-clause-value : goal.returns-clause-value
returns-clause-value c = c.get.ensures.value ∙ same_field (fields_of c.args.row.now) c.args.place
