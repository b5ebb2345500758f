use Rattle.std.proofs.Common.{rules, w64, ap, ◌∙◌}
use Rattle.std.proofs.lemmas.Int.{to_z-of_z}
use Rattle.tl_types.specs.declared.commits.Body.TheVariants as body
use Rattle.tl_outline.specs.Outlines.{outline_after}
use Rattle.tl_outline.proofs.OutlineLemmas.{shown_fits, few_versions, body_fits, table_there, applied}
use Rattle.tl_outline.proofs.outlines.Outline.apply.Goals as goal

pub change-requires-clause-fits : goal.change-requires-clause-fits
change-requires-clause-fits c =
    let outline = c.args.self.now in
    let commit = c.args.commit.now in
    body_fits outline commit (body.Change c.in-Change.change) (shown_fits outline commit c.requires) c.in-Change.is

pub forget-requires-clause-table : goal.forget-requires-clause-table
forget-requires-clause-table c =
    let outline = c.args.self.now in
    let commit = c.args.commit.now in
    table_there outline.version c.in-Forget.floor c.in-Forget.table outline.tables (body_fits outline commit (body.Forget c.in-Forget.table c.in-Forget.floor) (shown_fits outline commit c.requires) c.in-Forget.is)

pub returns-in_ok-change-in-Change-clause-ok : goal.returns-in_ok-change-in-Change-clause-ok
returns-in_ok-change-in-Change-clause-ok c =
    let outline = c.args.self.now in
    let commit = c.args.commit.now in
    applied outline c.change.new.self commit (body.Change c.in-Change.change) (few_versions outline commit (shown_fits outline commit c.requires)) c.in-Change.is c.in_ok-change-in-Change.ensures.ok

pub returns-in-Moment-clause-ok : goal.returns-in-Moment-clause-ok
returns-in-Moment-clause-ok c =
    let outline = c.args.self.now in
    let commit = c.args.commit.now in
    applied outline c.state.new.self commit (body.Moment c.in-Moment.moment) (few_versions outline commit (shown_fits outline commit c.requires)) c.in-Moment.is
    (c.state.ensures ∙ ap (λ m. outline_after (body.Moment m) outline) (to_z-of_z w64 c.in-Moment.moment (search rules)))

pub returns-in-Forget-clause-ok : goal.returns-in-Forget-clause-ok
returns-in-Forget-clause-ok c =
    let outline = c.args.self.now in
    let commit = c.args.commit.now in
    applied outline c.forget.new.self commit (body.Forget c.in-Forget.table c.in-Forget.floor) (few_versions outline commit (shown_fits outline commit c.requires)) c.in-Forget.is c.forget.ensures
