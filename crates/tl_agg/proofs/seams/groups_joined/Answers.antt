use Rattle.tl_agg.proofs.GroupedLemmas.{groups_end}
use Rattle.tl_agg.proofs.seams.groups_joined.Goals as goal

pub returns : goal.returns
returns c =
    groups_end c.args.left.items c.args.right.items c.reverse.new.self.items c.take_right.new.back.items c.new-done.result.items c.take_right.new.done.items c.reverse-2.new.self.items c.append.new.self.items c.reverse.ensures.items c.new-done.ensures.items c.in_ok-take_right.ensures c.reverse-2.ensures.items c.in_ok-append.ensures.items
