use Rattle.std.proofs.Common.{length, ◌∙◌, sym}
use Rattle.tl_types.specs.History.{database_of}
use Rattle.tl_check.proofs.TypedLemmas.{answered_at, answered_first, answered_right, answered_typed}
use Rattle.tl_check.proofs.checking.check.Goals as goal

pub returns-clause-value : goal.returns-clause-value
returns-clause-value c = answered_at (length c.args.store.now) (database_of c.args.store.now) c.args.query.now c.check_at.result c.new-times.result c.query_floor.result (sym c.versions-versions.ensures.number ∙ c.versions-versions.ensures.version) c.new-times.ensures c.query_floor.ensures c.check_at.ensures

pub returns-clause-first : goal.returns-clause-first
returns-clause-first c =
    answered_first (length c.args.store.now) (database_of c.args.store.now) c.args.query.now c.check_at.result
    (answered_at (length c.args.store.now) (database_of c.args.store.now) c.args.query.now c.check_at.result c.new-times.result c.query_floor.result (sym c.versions-versions.ensures.number ∙ c.versions-versions.ensures.version) c.new-times.ensures c.query_floor.ensures c.check_at.ensures)

pub returns-clause-right : goal.returns-clause-right
returns-clause-right c =
    answered_right (length c.args.store.now) (database_of c.args.store.now) c.args.query.now c.check_at.result
    (answered_at (length c.args.store.now) (database_of c.args.store.now) c.args.query.now c.check_at.result c.new-times.result c.query_floor.result (sym c.versions-versions.ensures.number ∙ c.versions-versions.ensures.version) c.new-times.ensures c.query_floor.ensures c.check_at.ensures)

pub returns-clause-typed : goal.returns-clause-typed
returns-clause-typed c =
    answered_typed (length c.args.store.now) (database_of c.args.store.now) c.args.query.now c.check_at.result
    (sym c.versions-versions.ensures.number ∙ c.versions-versions.ensures.version) c.versions-versions.ensures.times c.requires
    (answered_at (length c.args.store.now) (database_of c.args.store.now) c.args.query.now c.check_at.result c.new-times.result c.query_floor.result (sym c.versions-versions.ensures.number ∙ c.versions-versions.ensures.version) c.new-times.ensures c.query_floor.ensures c.check_at.ensures)
