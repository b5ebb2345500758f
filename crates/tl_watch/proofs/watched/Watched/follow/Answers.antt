use Rattle.std.proofs.Common.{◌≡◌, sym, ap, ◌∙◌, subst}
use Rattle.tl_types.specs.History.{database_of}
use Rattle.tl_watch.specs.Follows.{IsReady}
use Rattle.tl_watch.specs.Watches.{Watched, StandsOver}
use Rattle.tl_watch.proofs.ReadyLemmas.{ready_of, before_change, over_changed, over_another}
use Rattle.tl_watch.proofs.watched.Watched.follow.Goals as goal

pub returns-then-self-table-clause-stands : goal.returns-then-self-table-clause-stands
returns-then-self-table-clause-stands g c =
    over_another c.args.self.now c.args.before.now c.args.change.now c.args.author c.requires.fit c.requires.fits
    (λ e. c.if-self-table.true (ap (λ (w : Watched). w.plan.table) c.self.view_is ∙ sym e ∙ sym c.table.ensures)) c.requires.stands

pub follow_change-requires-clause-ready : goal.follow_change-requires-clause-ready
follow_change-requires-clause-ready g c =
    let was : Watched = record { plan = c.self.inside.plan; state = c.self.inside.state } in
    let over : StandsOver was (database_of c.args.before.now) = subst (λ (w : Watched). StandsOver w (database_of c.args.before.now)) (sym c.self.view_is) c.requires.stands in
    ready_of c.self.inside.plan c.args.before.now c.args.change.now c.args.author c.requires.fit c.requires.fits (sym c.table.ensures ∙ sym c.if-self-table.false) over.plan over.suits c.closes-closes.ensures.kept.ascending

pub follow_change-requires-clause-stands : goal.follow_change-requires-clause-stands
follow_change-requires-clause-stands g c =
    let was : Watched = record { plan = c.self.inside.plan; state = c.self.inside.state } in
    let over : StandsOver was (database_of c.args.before.now) = subst (λ (w : Watched). StandsOver w (database_of c.args.before.now)) (sym c.self.view_is) c.requires.stands in
    before_change c.self.inside.plan c.self.inside.state c.args.before.now c.args.change.now c.requires.fit over.stands

pub returns-clause-stands : goal.returns-clause-stands
returns-clause-stands g c =
    let was : Watched = record { plan = c.self.inside.plan; state = c.self.inside.state } in
    let over : StandsOver was (database_of c.args.before.now) = subst (λ (w : Watched). StandsOver w (database_of c.args.before.now)) (sym c.self.view_is) c.requires.stands in
    let is : c.args.change.now.table ≡ was.plan.table = sym c.table.ensures ∙ sym c.if-self-table.false in
    let ready : IsReady was.plan (database_of c.args.before.now) c.args.change.now = ready_of was.plan c.args.before.now c.args.change.now c.args.author c.requires.fit c.requires.fits is over.plan over.suits c.closes-closes.ensures.kept.ascending in
    over_changed was c.follow_change.new.state c.args.before.now c.args.change.now c.args.author c.requires.fit c.requires.fits is over ready c.in_ok-follow_change.ensures.stands
