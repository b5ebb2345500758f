use Rattle.std.proofs.Common.{refl, w64}
use Rattle.std.proofs.lemmas.Int.{to_z-of_z}
use Rattle.tl_types.specs.History.{database_of}
use Rattle.tl_batch.proofs.CommitLemmas.{found_now, room_now, floor_value, floor_fits}
use Rattle.tl_batch.proofs.resolving.resolve_floor.Goals as goal

pub floor-requires : goal.floor-requires
floor-requires c = (found_now c.args.store.now c.args.store.now c.as_str.result.now c.args.name.now c.in-Some.number refl c.as_str.ensures.bytes c.in-Some.ensures).within

pub returns-clause-value : goal.returns-clause-value
returns-clause-value c =
    let named = found_now c.args.store.now c.args.store.now c.as_str.result.now c.args.name.now c.in-Some.number refl c.as_str.ensures.bytes c.in-Some.ensures in
    let next = room_now c.args.store.now c.args.store.now c.args.limits.now.versions c.has_all_versions.result refl c.has_all_versions.ensures c.if-has_all_versions.false in
    floor_value c.args.limits.now (database_of c.args.store.now) c.args.author c.in-Some.number c.versions.result c.floor.result c.args.name.now c.args.floor c.floor_set-commit.result named next c.versions.ensures.version c.floor.ensures (rw (to_z-of_z w64 c.args.floor c.ranges.floor) at c.floor_set-commit.ensures)

pub returns-clause-fit : goal.returns-clause-fit
returns-clause-fit c =
    let named = found_now c.args.store.now c.args.store.now c.as_str.result.now c.args.name.now c.in-Some.number refl c.as_str.ensures.bytes c.in-Some.ensures in
    let next = room_now c.args.store.now c.args.store.now c.args.limits.now.versions c.has_all_versions.result refl c.has_all_versions.ensures c.if-has_all_versions.false in
    floor_fits c.args.limits.now (database_of c.args.store.now) c.args.author c.in-Some.number c.versions.result c.floor.result c.args.name.now c.args.floor c.floor_set-commit.result named next c.versions.ensures.version c.floor.ensures (rw (to_z-of_z w64 c.args.floor c.ranges.floor) at c.floor_set-commit.ensures)
