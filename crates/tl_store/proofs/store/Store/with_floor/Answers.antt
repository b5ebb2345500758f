use Rattle.std.proofs.Common.{◌≡◌, ◌∷◌, [], ◌++◌, true, List, get_or, set, sym, ap, ◌∙◌, subst, arith, refl}
use Rattle.std.specs.List.{insert}
use Rattle.tl_types.specs.declared.commits.Commit.{Commit}
use Rattle.tl_types.specs.declared.commits.Body.TheVariants as body
use Rattle.tl_types.specs.History.{database_of, fits}
use Rattle.tl_types.specs.Limits.{standard_limits}
use Rattle.tl_store.specs.declared.log.Deed.TheVariants as deed
use Rattle.tl_store.specs.declared.log.LogEntry.{LogEntry}
use Rattle.tl_store.specs.Kept.{Kept, kept_floored}
use Rattle.tl_store.specs.Log.{history_of, IsHistory}
use Rattle.tl_store.proofs.LogLemmas.{floored_list, floored_history, floor_number, put_back, kept_read}
use Rattle.tl_store.proofs.store.Store.with_floor.Goals as goal

pub invariant_of-result : goal.invariant_of-result
invariant_of-result c =
    let tables = c.self.inside.tables.items in
    let log = c.self.inside.log in
    let stamps = c.self.inside.stamps in
    let kept : Kept = c.in_ok-before.before in
    let number = c.args.table in
    let entry : LogEntry = record { author = c.args.author; table = number; deed = deed.Forget c.args.floor } in
    let fit = subst (λ (cs : List Commit). fits standard_limits (database_of cs) (record { author = c.args.author; body = body.Forget number c.args.floor }) ≡ true) (sym c.self.view_is) c.requires in
    let kept_is : kept ≡ get_or tables number kept = kept_read tables number number c.remove.result kept c.remove.ensures.value c.in_ok-before.ensures refl in
    let next : c.in_ok-new.field-0 ≡ kept_floored c.args.floor kept = c.in_ok-new.ensures ∙ c.with_floor-after.ensures in
    let there = floor_number tables log stamps c.self.invariant c.args.author number c.args.floor fit in
    let more : c.insert.new.self.items ≡ set tables number (kept_floored c.args.floor kept) =
    c.in_ok-insert.ensures.items
    ∙ ap (λ ts. insert ts number c.in_ok-new.field-0) c.remove.ensures.items
    ∙ put_back tables number c.in_ok-new.field-0 there
    ∙ ap (λ (k : Kept). set tables number k) next in
    let logged : c.in_ok-log.log ≡ log ++ entry ∷ [] = c.in_ok-log.ensures ∙ ap (λ t. log ++ t) c.as_slice.ensures in
    subst (λ l. IsHistory c.insert.new.self.items l stamps) (sym logged)
    (floored_history tables log stamps c.self.invariant c.args.author number c.args.floor fit kept kept_is c.insert.new.self.items entry more refl)

pub returns : goal.returns
returns c =
    let tables = c.self.inside.tables.items in
    let log = c.self.inside.log in
    let stamps = c.self.inside.stamps in
    let kept : Kept = c.in_ok-before.before in
    let number = c.args.table in
    let entry : LogEntry = record { author = c.args.author; table = number; deed = deed.Forget c.args.floor } in
    let fit = subst (λ (cs : List Commit). fits standard_limits (database_of cs) (record { author = c.args.author; body = body.Forget number c.args.floor }) ≡ true) (sym c.self.view_is) c.requires in
    let kept_is : kept ≡ get_or tables number kept = kept_read tables number number c.remove.result kept c.remove.ensures.value c.in_ok-before.ensures refl in
    let next : c.in_ok-new.field-0 ≡ kept_floored c.args.floor kept = c.in_ok-new.ensures ∙ c.with_floor-after.ensures in
    let there = floor_number tables log stamps c.self.invariant c.args.author number c.args.floor fit in
    let more : c.insert.new.self.items ≡ set tables number (kept_floored c.args.floor kept) =
    c.in_ok-insert.ensures.items
    ∙ ap (λ ts. insert ts number c.in_ok-new.field-0) c.remove.ensures.items
    ∙ put_back tables number c.in_ok-new.field-0 there
    ∙ ap (λ (k : Kept). set tables number k) next in
    let logged : c.in_ok-log.log ≡ log ++ entry ∷ [] = c.in_ok-log.ensures ∙ ap (λ t. log ++ t) c.as_slice.ensures in
    ap (λ l. history_of c.insert.new.self.items l) logged
    ∙ floored_list tables log stamps c.self.invariant c.args.author number c.args.floor fit kept kept_is c.insert.new.self.items entry more refl
    ∙ ap (λ (cs : List Commit). cs ++ record { author = c.args.author; body = body.Forget number c.args.floor } ∷ []) c.self.view_is

pub remove-requires : goal.remove-requires
remove-requires c =
    let number = c.args.table in
    let fit = subst (λ (cs : List Commit). fits standard_limits (database_of cs) (record { author = c.args.author; body = body.Forget number c.args.floor }) ≡ true) (sym c.self.view_is) c.requires in
    omega (arith, floor_number c.self.inside.tables.items c.self.inside.log c.self.inside.stamps c.self.invariant c.args.author number c.args.floor fit)
