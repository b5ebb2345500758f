use Rattle.std.proofs.Common.{ap, ◌∙◌}
use Rattle.tl_types.specs.Plain as plain
use Rattle.tl_batch.proofs.ConflictLemmas.{twice_found}
use Rattle.tl_batch.proofs.syncing.first_twice.Goals as goal

pub returns : goal.returns
returns c =
    c.in_ok-found.ensures c.args.table.now.schema.key c.args.table.now.rows c.index.ensures.ids
    ∙ twice_found c.args.table.now.schema c.key.result c.args.table.now.rows c.args.lines.now c.in_ok-keys.keys.items c.deref.result.now c.requires.untimed (c.key.ensures.value ∙ ap (λ (s : plain.Schema). s.key) c.schema.ensures.value) c.deref.ensures.value c.in_ok-keys.ensures
