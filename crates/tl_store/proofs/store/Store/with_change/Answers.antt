use Rattle.std.proofs.Common.{◌≡◌, ◌+◌, ◌∷◌, [], ◌++◌, true, List, length, get_or, set, sym, ap, ◌∙◌, subst, arith}
use Rattle.std.specs.List.{insert}
use Rattle.std.proofs.lemmas.List.{length-map}
use Rattle.tl_types.specs.declared.commits.Commit.{Commit}
use Rattle.tl_types.specs.declared.commits.Body.TheVariants as body
use Rattle.tl_types.specs.History.{database_of, fits}
use Rattle.tl_types.specs.Limits.{standard_limits}
use Rattle.tl_store.specs.declared.log.LogEntry.{LogEntry}
use Rattle.tl_store.specs.Kept.{Kept, kept_after}
use Rattle.tl_store.specs.Log.{history_of, commit_of, IsHistory}
use Rattle.tl_store.proofs.LogLemmas.{changed_list, changed_history, fits_kept, number_there, put_back, kept_read, entry_is}
use Rattle.tl_store.proofs.store.Store.with_change.Goals as goal

pub change-requires : goal.change-requires
change-requires c =
    let tables = c.self.inside.tables.items in
    let log = c.self.inside.log in
    let stamps = c.self.inside.stamps in
    let change = c.args.change.now in
    let kept : Kept = c.in_ok-before.before in
    let fit = subst (λ (cs : List Commit). fits standard_limits (database_of cs) (record { author = c.args.author; body = body.Change change }) ≡ true) (sym c.self.view_is) c.requires in
    let kept_is : kept ≡ get_or tables change.table kept = kept_read tables c.table-number.result change.table c.remove.result kept c.remove.ensures.value c.in_ok-before.ensures c.table-number.ensures in
    fits_kept tables log stamps c.self.invariant c.args.author change fit kept kept_is

pub invariant_of-result : goal.invariant_of-result
invariant_of-result c =
    let tables = c.self.inside.tables.items in
    let log = c.self.inside.log in
    let stamps = c.self.inside.stamps in
    let change = c.args.change.now in
    let kept : Kept = c.in_ok-before.before in
    let entry : LogEntry = record { author = c.args.author; table = c.table.result; deed = c.deed_of.result } in
    let fit = subst (λ (cs : List Commit). fits standard_limits (database_of cs) (record { author = c.args.author; body = body.Change change }) ≡ true) (sym c.self.view_is) c.requires in
    let kept_is : kept ≡ get_or tables change.table kept = kept_read tables c.table-number.result change.table c.remove.result kept c.remove.ensures.value c.in_ok-before.ensures c.table-number.ensures in
    let version : c.versions-version.result + 1 ≡ length log + 1 = omega (arith, c.versions-version.ensures.number, ap length c.self.view_is, length-map log (commit_of tables)) in
    let next : c.in_ok-new.field-0 ≡ kept_after (length log + 1) change kept = c.in_ok-new.ensures ∙ c.in_ok-after.ensures ∙ ap (λ v. kept_after v change kept) version in
    let there = number_there tables log stamps c.self.invariant c.args.author change fit kept kept_is in
    let more : c.insert.new.self.items ≡ set tables change.table (kept_after (length log + 1) change kept) =
    c.in_ok-insert.ensures.items
    ∙ ap (λ ts. insert ts c.table-number.result c.in_ok-new.field-0) c.remove.ensures.items
    ∙ put_back tables c.table-number.result c.in_ok-new.field-0 (omega (arith, there, c.table-number.ensures))
    ∙ ap (λ i. set tables i c.in_ok-new.field-0) c.table-number.ensures
    ∙ ap (λ (k : Kept). set tables change.table k) next in
    let logged : c.in_ok-log.log ≡ log ++ entry ∷ [] = c.in_ok-log.ensures ∙ ap (λ t. log ++ t) c.as_slice.ensures in
    let same = entry_is c.args.author c.table.result change kept c.deed_of.result c.table.ensures c.deed_of.ensures.deed in
    subst (λ l. IsHistory c.insert.new.self.items l stamps) (sym logged)
    (changed_history tables log stamps c.self.invariant c.args.author change fit kept kept_is c.insert.new.self.items entry c.deed_of.ensures.kept more same)

pub returns : goal.returns
returns c =
    let tables = c.self.inside.tables.items in
    let log = c.self.inside.log in
    let stamps = c.self.inside.stamps in
    let change = c.args.change.now in
    let kept : Kept = c.in_ok-before.before in
    let entry : LogEntry = record { author = c.args.author; table = c.table.result; deed = c.deed_of.result } in
    let fit = subst (λ (cs : List Commit). fits standard_limits (database_of cs) (record { author = c.args.author; body = body.Change change }) ≡ true) (sym c.self.view_is) c.requires in
    let kept_is : kept ≡ get_or tables change.table kept = kept_read tables c.table-number.result change.table c.remove.result kept c.remove.ensures.value c.in_ok-before.ensures c.table-number.ensures in
    let version : c.versions-version.result + 1 ≡ length log + 1 = omega (arith, c.versions-version.ensures.number, ap length c.self.view_is, length-map log (commit_of tables)) in
    let next : c.in_ok-new.field-0 ≡ kept_after (length log + 1) change kept = c.in_ok-new.ensures ∙ c.in_ok-after.ensures ∙ ap (λ v. kept_after v change kept) version in
    let there = number_there tables log stamps c.self.invariant c.args.author change fit kept kept_is in
    let more : c.insert.new.self.items ≡ set tables change.table (kept_after (length log + 1) change kept) =
    c.in_ok-insert.ensures.items
    ∙ ap (λ ts. insert ts c.table-number.result c.in_ok-new.field-0) c.remove.ensures.items
    ∙ put_back tables c.table-number.result c.in_ok-new.field-0 (omega (arith, there, c.table-number.ensures))
    ∙ ap (λ i. set tables i c.in_ok-new.field-0) c.table-number.ensures
    ∙ ap (λ (k : Kept). set tables change.table k) next in
    let logged : c.in_ok-log.log ≡ log ++ entry ∷ [] = c.in_ok-log.ensures ∙ ap (λ t. log ++ t) c.as_slice.ensures in
    let same = entry_is c.args.author c.table.result change kept c.deed_of.result c.table.ensures c.deed_of.ensures.deed in
    ap (λ l. history_of c.insert.new.self.items l) logged
    ∙ changed_list tables log stamps c.self.invariant c.args.author change fit kept kept_is c.insert.new.self.items entry c.deed_of.ensures.kept more same
    ∙ ap (λ (cs : List Commit). cs ++ record { author = c.args.author; body = body.Change change } ∷ []) c.self.view_is
