use Rattle.std.proofs.Common.{◌-◌, ◌<◌, length, sym, ap, ◌∙◌, subst, arith}
use Rattle.std.proofs.lemmas.List.{length-map}
use Rattle.tl_store.specs.Log.{commit_of, body_of, kept_at, IsDeed}
use Rattle.tl_store.proofs.LogLemmas.{entry_at, commit_there}
use Rattle.tl_store.proofs.store.Store.commit_at.Goals as goal

pub body_at-requires : goal.body_at-requires
body_at-requires g c =
    let tables = c.self.inside.tables.items in
    let log = c.self.inside.log in
    let entry = c.at-entry.result.now in
    let low : c.args.version - 1 < length log = omega (arith, c.requires.some, c.requires.there, ap length c.self.view_is, length-map log (commit_of tables)) in
    subst (λ ts. IsDeed ts entry.table entry.deed) (sym c.as_slice.ensures.value)
    (entry_at tables log (c.args.version - 1) entry c.self.invariant.entries low c.at-entry.ensures)

pub returns-clause-value : goal.returns-clause-value
returns-clause-value g c =
    let tables = c.self.inside.tables.items in
    let log = c.self.inside.log in
    let entry = c.at-entry.result.now in
    let low : c.args.version - 1 < length log = omega (arith, c.requires.some, c.requires.there, ap length c.self.view_is, length-map log (commit_of tables)) in
    let what = c.in_ok-body_at.ensures.value ∙ ap (λ ts. body_of entry.table entry.deed (kept_at ts entry.table)) c.as_slice.ensures.value in
    (commit_there tables log c.self.inside.stamps c.args.self.now (c.args.version - 1) entry c.in_ok-body_at.field-0 c.self.invariant c.self.view_is low c.at-entry.ensures what).0

pub returns-clause-fitting : goal.returns-clause-fitting
returns-clause-fitting g c =
    let tables = c.self.inside.tables.items in
    let log = c.self.inside.log in
    let entry = c.at-entry.result.now in
    let low : c.args.version - 1 < length log = omega (arith, c.requires.some, c.requires.there, ap length c.self.view_is, length-map log (commit_of tables)) in
    let what = c.in_ok-body_at.ensures.value ∙ ap (λ ts. body_of entry.table entry.deed (kept_at ts entry.table)) c.as_slice.ensures.value in
    (commit_there tables log c.self.inside.stamps c.args.self.now (c.args.version - 1) entry c.in_ok-body_at.field-0 c.self.invariant c.self.view_is low c.at-entry.ensures what).1
