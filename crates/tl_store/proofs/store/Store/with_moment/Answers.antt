use Rattle.std.proofs.Common.{◌≡◌, ◌+◌, ◌∷◌, [], ◌++◌, true, List, length, sym, ap, ◌∙◌, subst, arith, refl, w64}
use Rattle.std.proofs.lemmas.Int.{to_z-of_z}
use Rattle.std.proofs.lemmas.List.{length-map}
use Rattle.tl_types.specs.declared.commits.Commit.{Commit}
use Rattle.tl_types.specs.declared.commits.Body.TheVariants as body
use Rattle.tl_types.specs.History.{database_of, fits}
use Rattle.tl_types.specs.Limits.{standard_limits}
use Rattle.tl_store.specs.declared.log.Deed.TheVariants as deed
use Rattle.tl_store.specs.declared.log.LogEntry.{LogEntry}
use Rattle.tl_store.specs.Log.{history_of, commit_of, IsHistory}
use Rattle.tl_store.proofs.LogLemmas.{mk_stamp, stated_list, stated_history}
use Rattle.tl_store.proofs.store.Store.with_moment.Goals as goal

pub invariant_of-result : goal.invariant_of-result
invariant_of-result c =
    let tables = c.self.inside.tables.items in
    let log = c.self.inside.log in
    let stamps = c.self.inside.stamps in
    let entry : LogEntry = record { author = c.args.author; table = 0; deed = deed.Moment c.args.moment } in
    let fit = subst (λ (cs : List Commit). fits standard_limits (database_of cs) (record { author = c.args.author; body = body.Moment c.args.moment }) ≡ true) (sym c.self.view_is) c.requires in
    let version : c.versions-next.result + 1 ≡ length log + 1 = omega (arith, c.versions-next.ensures.number, ap length c.self.view_is, length-map log (commit_of tables)) in
    let same = to_z-of_z w64 c.args.moment c.ranges.moment in
    let stamped = (rw same at c.in_ok-stamps.ensures) ∙ ap (λ v. stamps ++ mk_stamp v c.args.moment ∷ []) version in
    let logged : c.in_ok-log.log ≡ log ++ entry ∷ [] = c.in_ok-log.ensures ∙ ap (λ t. log ++ t) (rw same at c.as_slice.ensures) in
    subst (λ l. IsHistory tables l c.in_ok-stamps.stamps) (sym logged)
    (stated_history tables log stamps c.self.invariant c.args.author c.args.moment fit entry c.in_ok-stamps.stamps refl stamped)

pub returns : goal.returns
returns c =
    let tables = c.self.inside.tables.items in
    let log = c.self.inside.log in
    let stamps = c.self.inside.stamps in
    let entry : LogEntry = record { author = c.args.author; table = 0; deed = deed.Moment c.args.moment } in
    let fit = subst (λ (cs : List Commit). fits standard_limits (database_of cs) (record { author = c.args.author; body = body.Moment c.args.moment }) ≡ true) (sym c.self.view_is) c.requires in
    let version : c.versions-next.result + 1 ≡ length log + 1 = omega (arith, c.versions-next.ensures.number, ap length c.self.view_is, length-map log (commit_of tables)) in
    let same = to_z-of_z w64 c.args.moment c.ranges.moment in
    let stamped = (rw same at c.in_ok-stamps.ensures) ∙ ap (λ v. stamps ++ mk_stamp v c.args.moment ∷ []) version in
    let logged : c.in_ok-log.log ≡ log ++ entry ∷ [] = c.in_ok-log.ensures ∙ ap (λ t. log ++ t) (rw same at c.as_slice.ensures) in
    ap (λ l. history_of tables l) logged
    ∙ stated_list tables log stamps c.self.invariant c.args.author c.args.moment fit entry c.in_ok-stamps.stamps refl stamped
    ∙ ap (λ (cs : List Commit). cs ++ record { author = c.args.author; body = body.Moment c.args.moment } ∷ []) c.self.view_is
