use Rattle.std.proofs.Common.{rules, ◌≡◌, length, sym, ap, ◌∙◌}
use Rattle.tl_ckpt.specs.Valid.{merged}
use Rattle.tl_ckpt.proofs.ChoiceLemmas.{no_items}
use Rattle.tl_ckpt.proofs.RunLemmas.{merged_none}
use Rattle.tl_ckpt.proofs.lists.joined.Goals as goal

pub returns-then-is_empty : goal.returns-then-is_empty
returns-then-is_empty c =
    let count : length c.args.part.items ≡ 0 = search rules in
    let none = no_items c.args.part.items count in
    sym (merged_none c.args.changes.items c.requires.changes) ∙ ap (λ es. merged es c.args.changes.items) (sym none)
