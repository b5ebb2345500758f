use Rattle.std.proofs.Common.{◌≡◌, refl, slice_set, rules, arith, length}
use Rattle.std.specs.Vec.{vec_len}
use Rattle.tl_types.specs.History.{database_of}
use Rattle.tl_batch.proofs.FollowLemmas.{fitting, fitting-within, fitting-there, fitting-stands, fitting-made}
use Rattle.tl_batch.proofs.keys.follow_change.Goals as goal

pub index_mut-index-requires : goal.index_mut-index-requires
index_mut-index-requires c =
    let h = fitting-within (database_of c.args.before.now) c.args.change.now (fitting (database_of c.args.before.now) c.args.change.now c.requires.fit) in
    let e = c.table.ensures in
    let s = c.requires.stands.tables in
    let k : vec_len c.args.tables.now ≡ length c.args.tables.now.items = search rules in
    omega arith

pub follow_if_made-requires-clause-is : goal.follow_if_made-requires-clause-is
follow_if_made-requires-clause-is c = fitting-there c.args.tables.now.items (database_of c.args.before.now) c.args.change.now c.index_mut-index.result.now (fitting (database_of c.args.before.now) c.args.change.now c.requires.fit) c.requires.stands (rw c.table.ensures at c.index_mut-index.ensures.value)

pub returns-clause-ok : goal.returns-clause-ok
returns-clause-ok c =
    let f = fitting (database_of c.args.before.now) c.args.change.now c.requires.fit in
    rw c.table.ensures (fitting-stands c.args.tables.now.items (slice_set c.args.tables.now.items c.args.change.now.table c.follow_if_made.new.index) (database_of c.args.before.now) c.args.change.now c.follow_if_made.new.index f c.requires.stands refl c.in_ok-follow_if_made.ensures.ok)

pub returns-clause-made : goal.returns-clause-made
returns-clause-made c =
    let f = fitting (database_of c.args.before.now) c.args.change.now c.requires.fit in
    rw c.table.ensures (fitting-made c.args.tables.now.items (slice_set c.args.tables.now.items c.args.change.now.table c.follow_if_made.new.index) (database_of c.args.before.now) c.args.change.now c.index_mut-index.result.now c.follow_if_made.new.index f c.requires.stands (rw c.table.ensures at c.index_mut-index.ensures.value) refl c.follow_if_made.ensures.made)
