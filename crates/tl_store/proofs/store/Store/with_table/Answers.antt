use Rattle.std.proofs.Common.{◌≡◌, ◌∷◌, [], ◌++◌, true, List, length, sym, ap, ◌∙◌, subst, arith}
use Rattle.tl_types.specs.declared.commits.Commit.{Commit}
use Rattle.tl_types.specs.declared.commits.Body.TheVariants as body
use Rattle.tl_types.specs.History.{database_of, fits}
use Rattle.tl_types.specs.Limits.{standard_limits}
use Rattle.tl_store.specs.declared.log.Deed.TheVariants as deed
use Rattle.tl_store.specs.declared.log.LogEntry.{LogEntry}
use Rattle.tl_store.specs.Kept.{Kept, kept_new}
use Rattle.tl_store.specs.Log.{history_of, IsHistory}
use Rattle.tl_store.proofs.LogLemmas.{created_list, created_history}
use Rattle.tl_store.proofs.store.Store.with_table.Goals as goal

pub invariant_of-result : goal.invariant_of-result
invariant_of-result c =
    let tables = c.self.inside.tables.items in
    let log = c.self.inside.log in
    let stamps = c.self.inside.stamps in
    let schema = c.args.schema.now in
    let entry : LogEntry = record { author = c.args.author; table = c.len.result; deed = deed.Create } in
    let number : c.len.result ≡ length tables = omega (arith, c.len.ensures, c.self.inside.tables.ok.0) in
    let fit = subst (λ (cs : List Commit). fits standard_limits (database_of cs) (record { author = c.args.author; body = body.Create schema }) ≡ true) (sym c.self.view_is) c.requires in
    let more : c.push.new.self.items ≡ tables ++ kept_new schema ∷ [] =
    c.in_ok-push.ensures.items ∙ ap (λ (k : Kept). tables ++ k ∷ []) (c.in_ok-new-2.ensures ∙ c.in_ok-new.ensures) in
    let logged : c.in_ok-log.log ≡ log ++ entry ∷ [] = c.in_ok-log.ensures ∙ ap (λ t. log ++ t) c.as_slice.ensures in
    let same = ap (λ n. record { author = c.args.author; table = n; deed = deed.Create }) number in
    subst (λ l. IsHistory c.push.new.self.items l stamps) (sym logged)
    (created_history tables log stamps c.self.invariant c.args.author schema fit c.push.new.self.items entry more same)

pub returns : goal.returns
returns c =
    let tables = c.self.inside.tables.items in
    let log = c.self.inside.log in
    let stamps = c.self.inside.stamps in
    let schema = c.args.schema.now in
    let entry : LogEntry = record { author = c.args.author; table = c.len.result; deed = deed.Create } in
    let number : c.len.result ≡ length tables = omega (arith, c.len.ensures, c.self.inside.tables.ok.0) in
    let fit = subst (λ (cs : List Commit). fits standard_limits (database_of cs) (record { author = c.args.author; body = body.Create schema }) ≡ true) (sym c.self.view_is) c.requires in
    let more : c.push.new.self.items ≡ tables ++ kept_new schema ∷ [] =
    c.in_ok-push.ensures.items ∙ ap (λ (k : Kept). tables ++ k ∷ []) (c.in_ok-new-2.ensures ∙ c.in_ok-new.ensures) in
    let logged : c.in_ok-log.log ≡ log ++ entry ∷ [] = c.in_ok-log.ensures ∙ ap (λ t. log ++ t) c.as_slice.ensures in
    let same = ap (λ n. record { author = c.args.author; table = n; deed = deed.Create }) number in
    ap (λ l. history_of c.push.new.self.items l) logged
    ∙ created_list tables log stamps c.self.invariant c.args.author schema fit c.push.new.self.items entry more same
    ∙ ap (λ (cs : List Commit). cs ++ record { author = c.args.author; body = body.Create schema } ∷ []) c.self.view_is
