use Rattle.std.proofs.Common.{◌<◌, ◌≤◌, ◌++◌, ◌∷◌, [], length, ap, ◌∙◌, arith, subst}
use Rattle.tl_store.specs.Reading.{cell_shown}
use Rattle.tl_keys.specs.Keys.{KeyNumbers, KeepsNumbers}
use Rattle.tl_watch.specs.Gathering.{GatheringOf}
use Rattle.tl_watch.proofs.NumberedLemmas.{had_place, new_place}
use Rattle.tl_watch.proofs.gathering.Gathering.number.Goals as goal

pub returns-in_ok-push : goal.returns-in_ok-push
returns-in_ok-push c =
    let by = ap (λ (g : GatheringOf). g.state.groups) c.self.view_is in
    let keys = ap (λ (g : GatheringOf). g.keys) c.self.view_is in
    let kind = ap (λ (g : GatheringOf). g.kind) c.self.view_is in
    let t = c.if-n-len.true in
    let len = c.len.ensures in
    let long = ap length by in
    let late : length c.args.self.now.state.groups ≤ c.in_ok-n.n = omega arith in
    let few = c.in_ok-n.ensures.count in
    let count = ap (λ (k : KeyNumbers). k.count) keys in
    new_place c.args.self.now (record { kind = c.self.inside.kind; state = record { all = c.self.inside.all; groups = c.push.new.self.items }; keys = c.number.new.self }) (cell_shown c.args.value) c.in_ok-n.n c.none-group.result c.requires.numbered c.in_ok-n.ensures.apart
    (subst (λ k. KeepsNumbers k c.number.new.self) keys c.in_ok-n.ensures.kept) c.in_ok-n.ensures.number late (omega arith)
    (c.in_ok-push.ensures.items ∙ ap (λ v. c.self.inside.by.items ++ v ∷ []) c.new.ensures ∙ ap (λ xs. xs ++ (cell_shown c.args.value, c.none-group.result) ∷ []) by) kind (c.none-group.ensures.kind ∙ kind) c.none-group.ensures.stands

pub returns-else-n-len : goal.returns-else-n-len
returns-else-n-len c =
    let by = ap (λ (g : GatheringOf). g.state.groups) c.self.view_is in
    let keys = ap (λ (g : GatheringOf). g.keys) c.self.view_is in
    let t = c.if-n-len.false in
    let len = c.len.ensures in
    let long = ap length by in
    let many = c.requires.numbered.many in
    let early : c.in_ok-n.n < length c.args.self.now.state.groups = omega arith in
    let count = ap (λ (k : KeyNumbers). k.count) keys in
    had_place c.args.self.now (record { kind = c.self.inside.kind; state = record { all = c.self.inside.all; groups = c.self.inside.by.items }; keys = c.number.new.self }) (cell_shown c.args.value) c.in_ok-n.n c.requires.numbered c.in_ok-n.ensures.apart c.in_ok-n.ensures.number early
    (c.in_ok-n.ensures.same (omega arith) ∙ keys) (ap (λ (g : GatheringOf). g.state) c.self.view_is) (ap (λ (g : GatheringOf). g.kind) c.self.view_is)
