-- What a change asks, and what is made.
use Rattle.std.proofs.Common.{◌≡◌, ◌∙◌, ◌++◌, ◌∷◌, [], List, length, get_or, set, ap, arith}
use Rattle.std.specs.List.{insert}
use Rattle.std.proofs.lemmas.Result.{IfOk-weaker}
use Rattle.tl_store.proofs.LogLemmas.{put_back}
use Rattle.tl_index.specs.declared.timelines.Timeline.{Timeline}
use Rattle.tl_index.specs.Timelines.{timelines_of}
use Rattle.tl_index.proofs.ApplyLemmas.{asked, create_after, floored_after, stated_after, timeline_there}
use Rattle.tl_index.proofs.timelines.timelines_after.Goals as goal

pub remove-requires : goal.remove-requires
remove-requires c =
    omega (arith, c.table-i.ensures, ap length c.timelines.view_is, timeline_there c.args.store.now c.args.commit.now c.in-Change.change c.args.timelines c.requires.fitting c.requires.fit c.requires.timelines c.in-Change.is)

pub after-requires-clause-few : goal.after-requires-clause-few
after-requires-clause-few c =
    (asked c.args.store.now c.args.commit.now c.in-Change.change c.args.timelines c.in_ok-timeline-in-Change.timeline c.remove.result c.table-i.result c.table.result c.versions.result c.rows-first.result c.closes.result.now c.opens.result.now
    c.requires.fitting c.requires.fit c.requires.timelines c.in-Change.is (c.remove.ensures.value ∙ ap (λ (ts : List Timeline). get_or ts c.table-i.result c.remove.result) c.timelines.view_is) c.in_ok-timeline-in-Change.ensures c.table-i.ensures c.table.ensures c.closes.ensures.value c.opens.ensures.value c.closes.ensures.kept c.rows-first.ensures.number c.versions.ensures.version).few

pub after-requires-clause-later : goal.after-requires-clause-later
after-requires-clause-later c =
    (asked c.args.store.now c.args.commit.now c.in-Change.change c.args.timelines c.in_ok-timeline-in-Change.timeline c.remove.result c.table-i.result c.table.result c.versions.result c.rows-first.result c.closes.result.now c.opens.result.now
    c.requires.fitting c.requires.fit c.requires.timelines c.in-Change.is (c.remove.ensures.value ∙ ap (λ (ts : List Timeline). get_or ts c.table-i.result c.remove.result) c.timelines.view_is) c.in_ok-timeline-in-Change.ensures c.table-i.ensures c.table.ensures c.closes.ensures.value c.opens.ensures.value c.closes.ensures.kept c.rows-first.ensures.number c.versions.ensures.version).later

pub returns-in_ok-insert-in-Change : goal.returns-in_ok-insert-in-Change
returns-in_ok-insert-in-Change c =
    let all = (asked c.args.store.now c.args.commit.now c.in-Change.change c.args.timelines c.in_ok-timeline-in-Change.timeline c.remove.result c.table-i.result c.table.result c.versions.result c.rows-first.result c.closes.result.now c.opens.result.now
    c.requires.fitting c.requires.fit c.requires.timelines c.in-Change.is (c.remove.ensures.value ∙ ap (λ (ts : List Timeline). get_or ts c.table-i.result c.remove.result) c.timelines.view_is) c.in_ok-timeline-in-Change.ensures c.table-i.ensures c.table.ensures c.closes.ensures.value c.opens.ensures.value c.closes.ensures.kept c.rows-first.ensures.number c.versions.ensures.version) in
    let ts = c.timelines.inside.list.items in
    c.in_ok-insert-in-Change.ensures.items
    ∙ ap (λ (us : List Timeline). insert us c.table-i.result c.in_ok-new-in-Change.field-0) c.remove.ensures.items
    ∙ put_back ts c.table-i.result c.in_ok-new-in-Change.field-0 (omega (arith, all.within, ap length c.timelines.view_is))
    ∙ ap (λ (us : List Timeline). set us c.table-i.result c.in_ok-new-in-Change.field-0) c.timelines.view_is
    ∙ ap (λ (y : Timeline). set c.args.timelines c.table-i.result y) (c.in_ok-new-in-Change.ensures ∙ c.in_ok-after-in-Change.ensures)
    ∙ all.made

pub returns-in-Create : goal.returns-in-Create
returns-in-Create c =
    IfOk-weaker c.with_none.result (λ after. after ≡ c.args.timelines ++ (record { events = []; ends = [] }) ∷ []) (λ after. after ≡ timelines_of (c.args.store.now ++ c.args.commit.now ∷ []))
    (λ x e. e ∙ create_after c.args.store.now c.args.commit.now c.in-Create.field-0 c.args.timelines c.requires.fitting c.requires.fit c.requires.timelines c.in-Create.is) c.with_none.ensures

pub returns-in-Moment : goal.returns-in-Moment
returns-in-Moment c = stated_after c.args.store.now c.args.commit.now _ c.args.timelines c.requires.fitting c.requires.fit c.requires.timelines c.in-Moment.is

pub returns-in-Forget : goal.returns-in-Forget
returns-in-Forget c = floored_after c.args.store.now c.args.commit.now _ _ c.args.timelines c.requires.fitting c.requires.fit c.requires.timelines c.in-Forget.is
