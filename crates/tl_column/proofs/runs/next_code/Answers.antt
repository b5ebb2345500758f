use Rattle.std.proofs.Common.{◌≡◌, true, false, get_or}
use Rattle.std.specs.Ordering.{is_gt}
use Rattle.tl_column.specs.Dictionary.{text_of}
use Rattle.tl_column.proofs.Ordered.{order, up_to_from_greater}
use Rattle.tl_column.proofs.RunFacts.{next_from_left, next_from_right}
use Rattle.tl_column.proofs.runs.next_code.Goals as goal

pub returns-then-is_gt : goal.returns-then-is_gt
returns-then-is_gt c =
    let left = text_of c.args.texts.now (get_or c.args.left.now 0 0) in
    let right = text_of c.args.texts.now (get_or c.args.right.now 0 0) in
    let greater : is_gt (order left right) ≡ true = cc in
    next_from_right c.args.texts.now c.args.left.now c.args.right.now c.requires.left c.in-len1-up.len_at_least c.in-len1-up-right-2.len_at_least (up_to_from_greater left right greater)

pub returns-else-is_gt : goal.returns-else-is_gt
returns-else-is_gt c =
    let left = text_of c.args.texts.now (get_or c.args.left.now 0 0) in
    let right = text_of c.args.texts.now (get_or c.args.right.now 0 0) in
    let up_to : is_gt (order left right) ≡ false = cc in
    next_from_left c.args.texts.now c.args.left.now c.args.right.now c.requires.right c.in-len1-up.len_at_least c.in-len1-up-right-2.len_at_least up_to
