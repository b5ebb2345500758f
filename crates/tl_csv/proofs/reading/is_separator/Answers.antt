use Rattle.std.proofs.Common.{rules, ◌∙◌, sym}
use Rattle.csv.specs.Records.{fields_of}
use Rattle.tl_csv.proofs.SeparatorLemmas.{one_field, no_field}
use Rattle.tl_csv.proofs.reading.is_separator.Goals as goal

pub returns-in-Some : goal.returns-in-Some
returns-in-Some c = c.is_quote.ensures ∙ sym (one_field (fields_of c.args.row.now) c.in-Some.field.now (search rules) (search rules))

pub returns-in-None : goal.returns-in-None
returns-in-None c = no_field (fields_of c.args.row.now) (search rules) (search rules)
