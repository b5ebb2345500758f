use Rattle.std.proofs.Common.{rules}
use Rattle.tl_check.proofs.CreateLemmas.{schema_there_by}
use Rattle.tl_check.proofs.creates.schema_of.Goals as goal

pub schema_with-requires : goal.schema_with-requires
schema_with-requires c =
    schema_there_by c.args.form.now c.in_ok-clone.field-0 c.in_ok-columns.columns c.unwrap_or-key.result c.requires.named c.requires.right c.in_ok-clone.ensures.cases (search rules) (search rules)
