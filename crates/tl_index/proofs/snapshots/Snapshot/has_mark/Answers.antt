-- The nearest mark tells whether there is one at the version.
use Rattle.std.proofs.Common.{◌∙◌, sym, ap}
use Rattle.std.specs.Prelude.{nat_eq}
use Rattle.std.specs.List.{list_any}
use Rattle.tl_types.specs.Legality.{database_behind}
use Rattle.tl_ckpt.specs.Marks.{marks_for}
use Rattle.tl_index.proofs.Marking.{is_at, has_mark_is, nearest_at, none_near}
use Rattle.tl_index.proofs.snapshots.Snapshot.has_mark.Goals as goal

pub returns-in-None : goal.returns-in-None
returns-in-None c =
    sym (has_mark_is (database_behind c.args.self.now) c.args.self.now c.args.table c.args.version
    ∙ ap (λ ms. list_any (is_at c.args.version) (marks_for ms c.args.table)) (sym c.marks.ensures.marks)
    ∙ none_near c.args.version (marks_for c.marks.result.now c.args.table) c.in-None.ensures.none)

pub returns-in-Some : goal.returns-in-Some
returns-in-Some c =
    let ms = marks_for c.marks.result.now c.args.table in
    ap (λ v. nat_eq v c.args.version) c.version.ensures
    ∙ sym (has_mark_is (database_behind c.args.self.now) c.args.self.now c.args.table c.args.version
    ∙ ap (λ ms. list_any (is_at c.args.version) (marks_for ms c.args.table)) (sym c.marks.ensures.marks)
    ∙ nearest_at c.args.version ms c.in-Some.mark.now c.nearest.ensures.climb c.in-Some.ensures.found)
