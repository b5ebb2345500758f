use Rattle.std.proofs.lemmas.List.Filters.{dedup_is}
use Rattle.tl_types.specs.contracts.events.ValidEventPartialEq.TheImpl as same
use Rattle.tl_ckpt.proofs.Sorted.{rises_left, has_left}
use Rattle.tl_index.specs.Tables.{rows_in}
use Rattle.tl_index.proofs.ChangeLemmas.{later_chosen, once_chosen}
use Rattle.tl_index.proofs.changes.changes_between.Goals as goal

pub returns-clause-rises : goal.returns-clause-rises
returns-clause-rises g c =
    let left = dedup_is same.eq-value.it c.sort_unstable.new.self.items c.dedup.new.self.items c.dedup.ensures.filtered in
    rises_left c.sort_unstable.new.self.items c.dedup.new.self.items c.sort_unstable.ensures.sorted left

pub returns-clause-chosen : goal.returns-clause-chosen
returns-clause-chosen g c =
    let left = dedup_is same.eq-value.it c.sort_unstable.new.self.items c.dedup.new.self.items c.dedup.ensures.filtered in
    let up = rises_left c.sort_unstable.new.self.items c.dedup.new.self.items c.sort_unstable.ensures.sorted left in
    once_chosen c.args.choice.now (rows_in c.args.table.now) c.args.lapse.now.old c.args.lapse.now.new c.in_ok-changes.changes.items c.dedup.new.self.items c.in_ok-changes.ensures.list up
    (has_left c.in_ok-changes.changes.items c.sort_unstable.new.self.items c.dedup.new.self.items c.sort_unstable.ensures.permutation left)

pub returns-clause-lead : goal.returns-clause-lead
returns-clause-lead g c =
    let left = dedup_is same.eq-value.it c.sort_unstable.new.self.items c.dedup.new.self.items c.dedup.ensures.filtered in
    let up = rises_left c.sort_unstable.new.self.items c.dedup.new.self.items c.sort_unstable.ensures.sorted left in
    later_chosen c.args.choice.now (rows_in c.args.table.now) c.args.lapse.now.old c.args.lapse.now.new c.in_ok-changes.changes.items c.dedup.new.self.items c.in_ok-changes.ensures.list up
    (has_left c.in_ok-changes.changes.items c.sort_unstable.new.self.items c.dedup.new.self.items c.sort_unstable.ensures.permutation left) c.requires.lapse.ordered
