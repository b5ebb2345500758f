-- The last of the table's marks.
use Rattle.std.proofs.Common.{◌∙◌, ◌-◌, sym, ap, arith}
use Rattle.tl_types.specs.Legality.{database_behind}
use Rattle.tl_ckpt.specs.Marks.{marks_for}
use Rattle.tl_index.proofs.Marking.{last_mark_is, no_last_mark, last_mark_known}
use Rattle.tl_index.proofs.ReadLemmas.{known_kept}
use Rattle.tl_index.proofs.snapshots.Snapshot.last_mark.Goals as goal

pub returns-then-count-eq0-clause-last : goal.returns-then-count-eq0-clause-last
returns-then-count-eq0-clause-last c =
    sym (no_last_mark (database_behind c.args.self.now) c.args.self.now c.args.table (marks_for c.marks-marks.result.now c.args.table)
    (ap (λ ms. marks_for ms c.args.table) c.marks-marks.ensures.marks) (sym c.count-count.ensures.count ∙ c.if-count-eq0.true))

pub returns-else-count-eq0-clause-last : goal.returns-else-count-eq0-clause-last
returns-else-count-eq0-clause-last c =
    let n = c.count-count.result in
    let some = c.if-count-eq0.false in
    let many = c.count-count.ensures.count in
    c.version.ensures
    ∙ sym (last_mark_is (database_behind c.args.self.now) c.args.self.now c.args.table (marks_for c.marks-marks.result.now c.args.table) (n - 1) c.at.result.now
    (ap (λ ms. marks_for ms c.args.table) c.marks-marks.ensures.marks) c.count-count.ensures.climb (omega arith) c.at.ensures)

pub returns-else-count-eq0-clause-known : goal.returns-else-count-eq0-clause-known
returns-else-count-eq0-clause-known c =
    let n = c.count-count.result in
    let some = c.if-count-eq0.false in
    let many = c.count-count.ensures.count in
    let is = c.version.ensures
    ∙ sym (last_mark_is (database_behind c.args.self.now) c.args.self.now c.args.table (marks_for c.marks-marks.result.now c.args.table) (n - 1) c.at.result.now
    (ap (λ ms. marks_for ms c.args.table) c.marks-marks.ensures.marks) c.count-count.ensures.climb (omega arith) c.at.ensures) in
    let known = known_kept c.args.self.now c.self.inside.store c.self.inside.log c.self.inside.broken c.self.inside.timelines c.self.inside.marks c.self.invariant c.self.view_is in
    let bound = last_mark_known (database_behind c.args.self.now) c.args.self.now c.args.table known in
    omega (arith, is, bound)
