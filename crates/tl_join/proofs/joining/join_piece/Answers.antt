use Rattle.std.proofs.Common.{ap, sym, ◌∙◌, ◌≡◌, subst, rules, w64, SFits}
use Rattle.std.proofs.lemmas.Int.{to_z-of_z}
use Rattle.tl_query.specs.Ordered.{in_order, pair_before}
use Rattle.std.specs.List.{AllByRecursion}
use Rattle.tl_types.specs.Entries.{commits_of}
use Rattle.tl_types.specs.History.{database_of}
use Rattle.tl_join.specs.Sweep.{IsEntry, grid}
use Rattle.tl_join.proofs.SideLemmas.{entries_later}
use Rattle.tl_join.proofs.JoinLemmas.{side_ready, pairs_found}
use Rattle.tl_join.proofs.joining.join_piece.Goals as goal

pub swept_pairs-requires-clause-lefts : goal.swept_pairs-requires-clause-lefts
swept_pairs-requires-clause-lefts g c =
    let w = c.requires.sets in
    let of = w.4 in
    let db = database_of (commits_of c.args.snapshot.now) in
    let keys = c.side_entries-2.new.keys in
    let side = side_ready db c.args.plan.now c.args.piece w.2 w.3 of.from of.to c.requires.after c.requires.inside keys c.in_ok-rights.ensures.apart w.0 c.side_of-left.result c.in_ok-lefts.lefts.items c.deref.result.now c.args.plan.now.left c.args.left_start.now c.args.left_keep.now (ap database_of c.side_of-left.ensures.store) c.side_of-left.ensures.table c.side_of-left.ensures.start c.side_of-left.ensures.keep c.requires.versions c.side_of-left.ensures.side of.left_starts of.left_keeps c.deref.ensures.value c.in_ok-lefts.ensures.ids (entries_later c.side_of-left.result c.args.plan.now c.side_entries.new.keys keys c.in_ok-lefts.lefts.items c.in_ok-rights.ensures.kept c.in_ok-lefts.ensures.entries) in
    subst (λ n. AllByRecursion (IsEntry n) c.deref.result.now) (sym c.count.ensures) side.entries.fit

pub swept_pairs-requires-clause-left_order : goal.swept_pairs-requires-clause-left_order
swept_pairs-requires-clause-left_order g c =
    let w = c.requires.sets in
    let of = w.4 in
    let db = database_of (commits_of c.args.snapshot.now) in
    let keys = c.side_entries-2.new.keys in
    let side = side_ready db c.args.plan.now c.args.piece w.2 w.3 of.from of.to c.requires.after c.requires.inside keys c.in_ok-rights.ensures.apart w.0 c.side_of-left.result c.in_ok-lefts.lefts.items c.deref.result.now c.args.plan.now.left c.args.left_start.now c.args.left_keep.now (ap database_of c.side_of-left.ensures.store) c.side_of-left.ensures.table c.side_of-left.ensures.start c.side_of-left.ensures.keep c.requires.versions c.side_of-left.ensures.side of.left_starts of.left_keeps c.deref.ensures.value c.in_ok-lefts.ensures.ids (entries_later c.side_of-left.result c.args.plan.now c.side_entries.new.keys keys c.in_ok-lefts.lefts.items c.in_ok-rights.ensures.kept c.in_ok-lefts.ensures.entries) in
    side.rise

pub swept_pairs-requires-clause-left_rows : goal.swept_pairs-requires-clause-left_rows
swept_pairs-requires-clause-left_rows g c =
    let w = c.requires.sets in
    let of = w.4 in
    let db = database_of (commits_of c.args.snapshot.now) in
    let keys = c.side_entries-2.new.keys in
    let side = side_ready db c.args.plan.now c.args.piece w.2 w.3 of.from of.to c.requires.after c.requires.inside keys c.in_ok-rights.ensures.apart w.0 c.side_of-left.result c.in_ok-lefts.lefts.items c.deref.result.now c.args.plan.now.left c.args.left_start.now c.args.left_keep.now (ap database_of c.side_of-left.ensures.store) c.side_of-left.ensures.table c.side_of-left.ensures.start c.side_of-left.ensures.keep c.requires.versions c.side_of-left.ensures.side of.left_starts of.left_keeps c.deref.ensures.value c.in_ok-lefts.ensures.ids (entries_later c.side_of-left.result c.args.plan.now c.side_entries.new.keys keys c.in_ok-lefts.lefts.items c.in_ok-rights.ensures.kept c.in_ok-lefts.ensures.entries) in
    side.one

pub swept_pairs-requires-clause-rights : goal.swept_pairs-requires-clause-rights
swept_pairs-requires-clause-rights g c =
    let w = c.requires.sets in
    let of = w.4 in
    let db = database_of (commits_of c.args.snapshot.now) in
    let keys = c.side_entries-2.new.keys in
    let side = side_ready db c.args.plan.now c.args.piece w.2 w.3 of.from of.to c.requires.after c.requires.inside keys c.in_ok-rights.ensures.apart w.1 c.side_of-right.result c.in_ok-rights.rights.items c.deref-2.result.now c.args.plan.now.right c.args.right_start.now c.args.right_keep.now (ap database_of c.side_of-right.ensures.store) c.side_of-right.ensures.table c.side_of-right.ensures.start c.side_of-right.ensures.keep c.requires.versions c.side_of-right.ensures.side of.right_starts of.right_keeps c.deref-2.ensures.value c.in_ok-rights.ensures.ids c.in_ok-rights.ensures.entries in
    subst (λ n. AllByRecursion (IsEntry n) c.deref-2.result.now) (sym c.count.ensures) side.entries.fit

pub swept_pairs-requires-clause-right_order : goal.swept_pairs-requires-clause-right_order
swept_pairs-requires-clause-right_order g c =
    let w = c.requires.sets in
    let of = w.4 in
    let db = database_of (commits_of c.args.snapshot.now) in
    let keys = c.side_entries-2.new.keys in
    let side = side_ready db c.args.plan.now c.args.piece w.2 w.3 of.from of.to c.requires.after c.requires.inside keys c.in_ok-rights.ensures.apart w.1 c.side_of-right.result c.in_ok-rights.rights.items c.deref-2.result.now c.args.plan.now.right c.args.right_start.now c.args.right_keep.now (ap database_of c.side_of-right.ensures.store) c.side_of-right.ensures.table c.side_of-right.ensures.start c.side_of-right.ensures.keep c.requires.versions c.side_of-right.ensures.side of.right_starts of.right_keeps c.deref-2.ensures.value c.in_ok-rights.ensures.ids c.in_ok-rights.ensures.entries in
    side.rise

pub swept_pairs-requires-clause-right_rows : goal.swept_pairs-requires-clause-right_rows
swept_pairs-requires-clause-right_rows g c =
    let w = c.requires.sets in
    let of = w.4 in
    let db = database_of (commits_of c.args.snapshot.now) in
    let keys = c.side_entries-2.new.keys in
    let side = side_ready db c.args.plan.now c.args.piece w.2 w.3 of.from of.to c.requires.after c.requires.inside keys c.in_ok-rights.ensures.apart w.1 c.side_of-right.result c.in_ok-rights.rights.items c.deref-2.result.now c.args.plan.now.right c.args.right_start.now c.args.right_keep.now (ap database_of c.side_of-right.ensures.store) c.side_of-right.ensures.table c.side_of-right.ensures.start c.side_of-right.ensures.keep c.requires.versions c.side_of-right.ensures.side of.right_starts of.right_keeps c.deref-2.ensures.value c.in_ok-rights.ensures.ids c.in_ok-rights.ensures.entries in
    side.one

pub returns-clause-pairs : goal.returns-clause-pairs
returns-clause-pairs g c left_pred right_pred a b of =
    let fits : SFits w64 c.from.result = search rules in
    let db = database_of (commits_of c.args.snapshot.now) in
    let keys = c.side_entries-2.new.keys in
    let left = side_ready db c.args.plan.now c.args.piece a b of.from of.to c.requires.after c.requires.inside keys c.in_ok-rights.ensures.apart left_pred c.side_of-left.result c.in_ok-lefts.lefts.items c.deref.result.now c.args.plan.now.left c.args.left_start.now c.args.left_keep.now (ap database_of c.side_of-left.ensures.store) c.side_of-left.ensures.table c.side_of-left.ensures.start c.side_of-left.ensures.keep c.requires.versions c.side_of-left.ensures.side of.left_starts of.left_keeps c.deref.ensures.value c.in_ok-lefts.ensures.ids (entries_later c.side_of-left.result c.args.plan.now c.side_entries.new.keys keys c.in_ok-lefts.lefts.items c.in_ok-rights.ensures.kept c.in_ok-lefts.ensures.entries) in
    let right = side_ready db c.args.plan.now c.args.piece a b of.from of.to c.requires.after c.requires.inside keys c.in_ok-rights.ensures.apart right_pred c.side_of-right.result c.in_ok-rights.rights.items c.deref-2.result.now c.args.plan.now.right c.args.right_start.now c.args.right_keep.now (ap database_of c.side_of-right.ensures.store) c.side_of-right.ensures.table c.side_of-right.ensures.start c.side_of-right.ensures.keep c.requires.versions c.side_of-right.ensures.side of.right_starts of.right_keeps c.deref-2.ensures.value c.in_ok-rights.ensures.ids c.in_ok-rights.ensures.entries in
    c.from_vec.ensures ∙ pairs_found db c.args.plan.now c.args.piece a b of.from of.to c.requires.after c.requires.inside keys c.in_ok-rights.ensures.apart left_pred right_pred c.side_of-left.result c.side_of-right.result c.deref.result.now c.deref-2.result.now c.in_ok-pairs.pairs.items (ap database_of c.side_of-left.ensures.store) c.side_of-left.ensures.table c.side_of-left.ensures.column (ap database_of c.side_of-right.ensures.store) c.side_of-right.ensures.table c.side_of-right.ensures.column left right (subst (λ first. c.in_ok-pairs.pairs.items ≡ in_order pair_before (grid first c.deref.result.now c.deref-2.result.now)) (to_z-of_z w64 c.from.result fits ∙ c.from.ensures) c.in_ok-pairs.ensures.pairs)
