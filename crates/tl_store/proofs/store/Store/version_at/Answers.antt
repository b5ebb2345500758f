use Rattle.std.proofs.Common.{◌≡◌, length, sym, ap, ◌∙◌, arith, w64}
use Rattle.std.proofs.lemmas.Int.{to_z-of_z}
use Rattle.std.proofs.lemmas.List.{length-map}
use Rattle.tl_types.specs.History.{version_at_moment}
use Rattle.tl_types.specs.Plain as plain
use Rattle.tl_store.specs.Log.{commit_of}
use Rattle.tl_store.proofs.LogLemmas.{stands_for, stamps_rise, moment_within}
use Rattle.tl_store.proofs.store.Store.version_at.Goals as goal

pub version_at-requires : goal.version_at-requires
version_at-requires c = stamps_rise c.self.inside.tables.items c.self.inside.log c.self.inside.stamps c.self.invariant

pub returns-clause-value : goal.returns-clause-value
returns-clause-value c =
    let stands = stands_for c.self.inside.tables.items c.self.inside.log c.self.inside.stamps c.args.self.now c.self.invariant c.self.view_is in
    let number : c.versions.result ≡ length c.self.inside.log = c.versions.ensures.version ∙ ap (λ (db : plain.Database). db.version) stands in
    (rw (to_z-of_z w64 c.args.moment c.ranges.moment) at c.version_at.ensures)
    ∙ ap (λ n. version_at_moment n c.self.inside.stamps c.args.moment) number
    ∙ ap (λ (db : plain.Database). version_at_moment db.version db.stamps c.args.moment) (sym stands)

pub returns-clause-reached : goal.returns-clause-reached
returns-clause-reached c =
    let long : length c.args.self.now ≡ length c.self.inside.log = ap length (sym c.self.view_is) ∙ length-map c.self.inside.log (commit_of c.self.inside.tables.items) in
    let number : c.versions.result ≡ length c.self.inside.log = c.versions.ensures.number ∙ long in
    let same = (rw (to_z-of_z w64 c.args.moment c.ranges.moment) at c.version_at.ensures) ∙ ap (λ n. version_at_moment n c.self.inside.stamps c.args.moment) number in
    omega (arith, long, same, moment_within c.self.inside.tables.items c.self.inside.log c.self.inside.stamps c.args.moment c.self.invariant)
