use Rattle.std.proofs.Common.{◌≡◌, List, ap, sym, ◌∙◌, subst, rules, w64, SFits}
use Rattle.std.proofs.lemmas.Int.{to_z-of_z}
use Rattle.std.specs.List.{AllByRecursion}
use Rattle.tl_types.specs.Entries.{commits_of}
use Rattle.tl_types.specs.History.{database_of}
use Rattle.tl_query.specs.Ordered.{in_order, pair_before}
use Rattle.tl_join.specs.declared.entries.Entry.{Entry}
use Rattle.tl_join.specs.Sweep.{AreSame, AreOne, IsEntry, grid}
use Rattle.tl_join.proofs.ValidJoinLemmas.{entries_of_side, side_ready, pairs_found}
use Rattle.tl_join.proofs.valid_joining.valid_join.Goals as goal

pub swept_pairs-requires-clause-lefts : goal.swept_pairs-requires-clause-lefts
swept_pairs-requires-clause-lefts g c =
    let db = database_of (commits_of c.args.snapshot.now) in
    let keys = c.side_entries-2.new.keys in
    let side = side_ready db c.side_of-left_side.result c.args.plan.now c.side_entries.new.keys keys c.args.left.now c.in_ok-lefts.lefts.items c.deref.result.now c.args.plan.now.left (ap database_of c.side_of-left_side.ensures.store) c.side_of-left_side.ensures.table c.requires.left_events c.in_ok-rights.ensures.apart c.in_ok-rights.ensures.kept c.in_ok-lefts.ensures.entries c.deref.ensures.value in
    subst (λ n. AllByRecursion (IsEntry n) c.deref.result.now) (sym c.count.ensures) side.fit

pub swept_pairs-requires-clause-left_order : goal.swept_pairs-requires-clause-left_order
swept_pairs-requires-clause-left_order g c =
    let db = database_of (commits_of c.args.snapshot.now) in
    let keys = c.side_entries-2.new.keys in
    let side = side_ready db c.side_of-left_side.result c.args.plan.now c.side_entries.new.keys keys c.args.left.now c.in_ok-lefts.lefts.items c.deref.result.now c.args.plan.now.left (ap database_of c.side_of-left_side.ensures.store) c.side_of-left_side.ensures.table c.requires.left_events c.in_ok-rights.ensures.apart c.in_ok-rights.ensures.kept c.in_ok-lefts.ensures.entries c.deref.ensures.value in
    side.rise

pub swept_pairs-requires-clause-left_rows : goal.swept_pairs-requires-clause-left_rows
swept_pairs-requires-clause-left_rows g c =
    let db = database_of (commits_of c.args.snapshot.now) in
    let keys = c.side_entries-2.new.keys in
    let side = side_ready db c.side_of-left_side.result c.args.plan.now c.side_entries.new.keys keys c.args.left.now c.in_ok-lefts.lefts.items c.deref.result.now c.args.plan.now.left (ap database_of c.side_of-left_side.ensures.store) c.side_of-left_side.ensures.table c.requires.left_events c.in_ok-rights.ensures.apart c.in_ok-rights.ensures.kept c.in_ok-lefts.ensures.entries c.deref.ensures.value in
    side.one

pub swept_pairs-requires-clause-rights : goal.swept_pairs-requires-clause-rights
swept_pairs-requires-clause-rights g c =
    let db = database_of (commits_of c.args.snapshot.now) in
    let keys = c.side_entries-2.new.keys in
    let side = side_ready db c.side_of-right_side.result c.args.plan.now c.side_entries-2.new.keys keys c.args.right.now c.in_ok-rights.rights.items c.deref-2.result.now c.args.plan.now.right (ap database_of c.side_of-right_side.ensures.store) c.side_of-right_side.ensures.table c.requires.right_events c.in_ok-rights.ensures.apart (λ key n h. h) c.in_ok-rights.ensures.entries c.deref-2.ensures.value in
    subst (λ n. AllByRecursion (IsEntry n) c.deref-2.result.now) (sym c.count.ensures) side.fit

pub swept_pairs-requires-clause-right_order : goal.swept_pairs-requires-clause-right_order
swept_pairs-requires-clause-right_order g c =
    let db = database_of (commits_of c.args.snapshot.now) in
    let keys = c.side_entries-2.new.keys in
    let side = side_ready db c.side_of-right_side.result c.args.plan.now c.side_entries-2.new.keys keys c.args.right.now c.in_ok-rights.rights.items c.deref-2.result.now c.args.plan.now.right (ap database_of c.side_of-right_side.ensures.store) c.side_of-right_side.ensures.table c.requires.right_events c.in_ok-rights.ensures.apart (λ key n h. h) c.in_ok-rights.ensures.entries c.deref-2.ensures.value in
    side.rise

pub swept_pairs-requires-clause-right_rows : goal.swept_pairs-requires-clause-right_rows
swept_pairs-requires-clause-right_rows g c =
    let db = database_of (commits_of c.args.snapshot.now) in
    let keys = c.side_entries-2.new.keys in
    let side = side_ready db c.side_of-right_side.result c.args.plan.now c.side_entries-2.new.keys keys c.args.right.now c.in_ok-rights.rights.items c.deref-2.result.now c.args.plan.now.right (ap database_of c.side_of-right_side.ensures.store) c.side_of-right_side.ensures.table c.requires.right_events c.in_ok-rights.ensures.apart (λ key n h. h) c.in_ok-rights.ensures.entries c.deref-2.ensures.value in
    side.one

pub returns-clause-pairs : goal.returns-clause-pairs
returns-clause-pairs g c left_pred right_pred version left_keeps right_keeps left_events right_events =
    let db = database_of (commits_of c.args.snapshot.now) in
    let keys = c.side_entries-2.new.keys in
    let left = entries_of_side db c.side_of-left_side.result c.args.plan.now version left_pred c.side_entries.new.keys keys c.args.left.now c.args.left_keep.now c.in_ok-lefts.lefts.items c.deref.result.now c.args.plan.now.left c.args.plan.now.left_on (ap database_of c.side_of-left_side.ensures.store) c.side_of-left_side.ensures.table c.side_of-left_side.ensures.column c.side_of-left_side.ensures.keep c.in_ok-rights.ensures.kept c.in_ok-lefts.ensures.entries c.deref.ensures.value left_keeps left_events in
    let right = entries_of_side db c.side_of-right_side.result c.args.plan.now version right_pred c.side_entries-2.new.keys keys c.args.right.now c.args.right_keep.now c.in_ok-rights.rights.items c.deref-2.result.now c.args.plan.now.right c.args.plan.now.right_on (ap database_of c.side_of-right_side.ensures.store) c.side_of-right_side.ensures.table c.side_of-right_side.ensures.column c.side_of-right_side.ensures.keep (λ key n h. h) c.in_ok-rights.ensures.entries c.deref-2.ensures.value right_keeps right_events in
    let lefts = c.deref.result.now in
    let rights = c.deref-2.result.now in
    let fits : SFits w64 c.args.plan.now.from = search rules in
    let any = subst (λ first. (ls rs : List Entry) → AreSame lefts ls → AreSame rights rs → AreOne ls → AreOne rs → c.in_ok-pairs.pairs.items ≡ in_order pair_before (grid first ls rs)) (to_z-of_z w64 c.args.plan.now.from fits) c.in_ok-pairs.ensures.any_order in
    c.from_vec.ensures ∙ pairs_found c.args.plan.now version left_pred right_pred keys c.in_ok-rights.ensures.apart db c.deref.result.now c.deref-2.result.now c.in_ok-pairs.pairs.items left right any
