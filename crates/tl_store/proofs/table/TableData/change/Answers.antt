use Rattle.std.proofs.Common.{◌<◌, ◌++◌, length, All, replicate, refl, ap, sym, ◌∙◌, subst, arith}
use Rattle.tl_shared.specs.Chunks.{set_each}
use Rattle.tl_types.specs.History.{open_end}
use Rattle.tl_store.specs.Columns.{longer_from, periods_in}
use Rattle.tl_store.proofs.RowLemmas.{column_lengths}
use Rattle.tl_store.proofs.ChangeLemmas.{few_rows, closes_there, table_made, kept_made}
use Rattle.tl_store.proofs.table.TableData.change.Goals as goal

pub set_each-requires : goal.set_each-requires
set_each-requires c =
    let t = c.self.inside in (
      omega arith,
      subst (λ ids. All (λ id. id < length t.to) ids) (sym c.closes-closes.ensures.value)
          (closes_there t.schema.value t.columns.items t.periods t.from t.to t.closed t.floor c.args.self c.args.change.now c.self.invariant c.self.view_is c.requires),
    )

pub append_to_all-requires : goal.append_to_all-requires
append_to_all-requires c =
    let t = c.self.inside in
    let few = few_rows t.schema.value t.columns.items t.periods t.from t.to t.closed t.floor c.args.self c.args.change.now c.self.invariant c.self.view_is c.requires in
    let opens = ap length c.opens-opens.ensures.value in
    λ k d h. let long = column_lengths (length t.from) t.schema.value.columns t.columns.items c.self.invariant.cells k d h in omega (arith, few, opens, long)

pub invariant_of-result : goal.invariant_of-result
invariant_of-result c =
    let t = c.self.inside in
    let change = c.args.change.now in
    let v = c.args.version in
    let opens = c.opens-opens.ensures.value in
    table_made t.schema.value t.columns.items t.periods t.from t.to t.closed t.floor c.args.self change c.self.invariant c.self.view_is c.requires
    v t.schema.value c.in_ok-append_to_all.field-0.items c.in_ok-append.field-0 c.in_ok-append-2.field-0 c.in_ok-append-3.field-0 c.in_ok-append-4.field-0
    refl
    (c.in_ok-append_to_all.ensures ∙ ap (λ o. longer_from o 0 t.columns.items) opens)
    (c.in_ok-append.ensures ∙ ap (λ o. t.periods ++ periods_in o) opens)
    (c.in_ok-append-2.ensures ∙ ap (λ x. t.from ++ x) (c.as_slice.ensures.value ∙ c.in_ok-begins.ensures ∙ ap (λ o. replicate (length o) v) opens))
    (c.in_ok-append-3.ensures ∙ ap (λ x. x ++ c.as_slice-2.result.now) (c.in_ok-ended.ensures ∙ ap (set_each v t.to) c.closes-closes.ensures.value) ∙ ap (λ x. set_each v t.to change.closes ++ x) (c.as_slice-2.ensures.value ∙ c.in_ok-ends.ensures ∙ ap (λ o. replicate (length o) open_end) opens))
    (c.in_ok-append-4.ensures ∙ ap (λ x. t.closed ++ x) c.closes-closes.ensures.value)

pub returns : goal.returns
returns c =
    let t = c.self.inside in
    let change = c.args.change.now in
    let v = c.args.version in
    let opens = c.opens-opens.ensures.value in
    kept_made t.schema.value t.columns.items t.periods t.from t.to t.closed t.floor c.args.self change c.self.invariant c.self.view_is c.requires
    v t.schema.value c.in_ok-append_to_all.field-0.items c.in_ok-append.field-0 c.in_ok-append-2.field-0 c.in_ok-append-3.field-0 c.in_ok-append-4.field-0
    refl
    (c.in_ok-append_to_all.ensures ∙ ap (λ o. longer_from o 0 t.columns.items) opens)
    (c.in_ok-append.ensures ∙ ap (λ o. t.periods ++ periods_in o) opens)
    (c.in_ok-append-2.ensures ∙ ap (λ x. t.from ++ x) (c.as_slice.ensures.value ∙ c.in_ok-begins.ensures ∙ ap (λ o. replicate (length o) v) opens))
    (c.in_ok-append-3.ensures ∙ ap (λ x. x ++ c.as_slice-2.result.now) (c.in_ok-ended.ensures ∙ ap (set_each v t.to) c.closes-closes.ensures.value) ∙ ap (λ x. set_each v t.to change.closes ++ x) (c.as_slice-2.ensures.value ∙ c.in_ok-ends.ensures ∙ ap (λ o. replicate (length o) open_end) opens))
    (c.in_ok-append-4.ensures ∙ ap (λ x. t.closed ++ x) c.closes-closes.ensures.value)
