use Rattle.std.proofs.Common.{◌≡◌, ◌<◌, ◌≤◌, true, false, get_or, length, w64, sym, ap, ◌∙◌, arith, rules}
use Rattle.std.proofs.lemmas.Int.{to_z-of_z}
use Rattle.tl_types.specs.Resolving.{same_row}
use Rattle.tl_batch.specs.Syncing.{UnmatchedLines, as_opened, unmarked_lines}
use Rattle.tl_batch.proofs.MatchingLemmas.{only_there, none_placed, none_within, none_free, none_other, row_alone, row_matched}
use Rattle.tl_batch.proofs.line_matching.LineMatching.match_row.Goals as goal

pub returns-in_default-clause-matched : goal.returns-in_default-clause-matched
returns-in_default-clause-matched g c = λ r there. (row_alone r (record { key = c.self.inside.place; lines = unmarked_lines c.self.inside.lines.now c.self.inside.marks.items }) c.args.self.now c.self.view_is (none_placed r c.self.inside.lines.now c.self.inside.marks.items c.find.result (only_there c.self.inside.place c.args.table.now.schema.key c.self.inside.lines.now c.self.inside.places r c.in_ok-key.key c.start-start.result c.find.result c.self.invariant.placed (ap (λ (v : UnmatchedLines). v.key) c.self.view_is ∙ c.requires.key) (c.in_ok-key.ensures r there) (c.start-start.ensures r there) (rw (to_z-of_z w64 c.start-start.result (search rules)) at c.find.ensures)) c.in_default.is)).matched_is

pub returns-in_default-clause-left : goal.returns-in_default-clause-left
returns-in_default-clause-left g c = λ r there. (row_alone r (record { key = c.self.inside.place; lines = unmarked_lines c.self.inside.lines.now c.self.inside.marks.items }) c.args.self.now c.self.view_is (none_placed r c.self.inside.lines.now c.self.inside.marks.items c.find.result (only_there c.self.inside.place c.args.table.now.schema.key c.self.inside.lines.now c.self.inside.places r c.in_ok-key.key c.start-start.result c.find.result c.self.invariant.placed (ap (λ (v : UnmatchedLines). v.key) c.self.view_is ∙ c.requires.key) (c.in_ok-key.ensures r there) (c.start-start.ensures r there) (rw (to_z-of_z w64 c.start-start.result (search rules)) at c.find.ensures)) c.in_default.is)).left

pub returns-then-place-self-clause-matched : goal.returns-then-place-self-clause-matched
returns-then-place-self-clause-matched g c = λ r there. (row_alone r (record { key = c.self.inside.place; lines = unmarked_lines c.self.inside.lines.now c.self.inside.marks.items }) c.args.self.now c.self.view_is (none_within r c.self.inside.lines.now c.self.inside.marks.items c.find.result c.in-Some.place (only_there c.self.inside.place c.args.table.now.schema.key c.self.inside.lines.now c.self.inside.places r c.in_ok-key.key c.start-start.result c.find.result c.self.invariant.placed (ap (λ (v : UnmatchedLines). v.key) c.self.view_is ∙ c.requires.key) (c.in_ok-key.ensures r there) (c.start-start.ensures r there) (rw (to_z-of_z w64 c.start-start.result (search rules)) at c.find.ensures)) c.in-Some.is c.if-place-self.true)).matched_is

pub returns-then-place-self-clause-left : goal.returns-then-place-self-clause-left
returns-then-place-self-clause-left g c = λ r there. (row_alone r (record { key = c.self.inside.place; lines = unmarked_lines c.self.inside.lines.now c.self.inside.marks.items }) c.args.self.now c.self.view_is (none_within r c.self.inside.lines.now c.self.inside.marks.items c.find.result c.in-Some.place (only_there c.self.inside.place c.args.table.now.schema.key c.self.inside.lines.now c.self.inside.places r c.in_ok-key.key c.start-start.result c.find.result c.self.invariant.placed (ap (λ (v : UnmatchedLines). v.key) c.self.view_is ∙ c.requires.key) (c.in_ok-key.ensures r there) (c.start-start.ensures r there) (rw (to_z-of_z w64 c.start-start.result (search rules)) at c.find.ensures)) c.in-Some.is c.if-place-self.true)).left

pub returns-then-index-clause-matched : goal.returns-then-index-clause-matched
returns-then-index-clause-matched g c = λ r there. (row_alone r (record { key = c.self.inside.place; lines = unmarked_lines c.self.inside.lines.now c.self.inside.marks.items }) c.args.self.now c.self.view_is (none_free r c.self.inside.lines.now c.self.inside.marks.items c.find.result c.in-Some.place (only_there c.self.inside.place c.args.table.now.schema.key c.self.inside.lines.now c.self.inside.places r c.in_ok-key.key c.start-start.result c.find.result c.self.invariant.placed (ap (λ (v : UnmatchedLines). v.key) c.self.view_is ∙ c.requires.key) (c.in_ok-key.ensures r there) (c.start-start.ensures r there) (rw (to_z-of_z w64 c.start-start.result (search rules)) at c.find.ensures)) c.in-Some.is (let h = c.if-place-self.false in let n = c.self.invariant.number in omega arith) (sym c.if-index.true ∙ (c.index.ensures ∙ ap (get_or c.self.inside.marks.items c.in-Some.place) c.if-index.true)))).matched_is

pub returns-then-index-clause-left : goal.returns-then-index-clause-left
returns-then-index-clause-left g c = λ r there. (row_alone r (record { key = c.self.inside.place; lines = unmarked_lines c.self.inside.lines.now c.self.inside.marks.items }) c.args.self.now c.self.view_is (none_free r c.self.inside.lines.now c.self.inside.marks.items c.find.result c.in-Some.place (only_there c.self.inside.place c.args.table.now.schema.key c.self.inside.lines.now c.self.inside.places r c.in_ok-key.key c.start-start.result c.find.result c.self.invariant.placed (ap (λ (v : UnmatchedLines). v.key) c.self.view_is ∙ c.requires.key) (c.in_ok-key.ensures r there) (c.start-start.ensures r there) (rw (to_z-of_z w64 c.start-start.result (search rules)) at c.find.ensures)) c.in-Some.is (let h = c.if-place-self.false in let n = c.self.invariant.number in omega arith) (sym c.if-index.true ∙ (c.index.ensures ∙ ap (get_or c.self.inside.marks.items c.in-Some.place) c.if-index.true)))).left

pub returns-then-not-same-clause-matched : goal.returns-then-not-same-clause-matched
returns-then-not-same-clause-matched g c = λ r there. (row_alone r (record { key = c.self.inside.place; lines = unmarked_lines c.self.inside.lines.now c.self.inside.marks.items }) c.args.self.now c.self.view_is (none_other r c.self.inside.lines.now c.self.inside.marks.items c.find.result c.in-Some.place c.index-self-place.result (only_there c.self.inside.place c.args.table.now.schema.key c.self.inside.lines.now c.self.inside.places r c.in_ok-key.key c.start-start.result c.find.result c.self.invariant.placed (ap (λ (v : UnmatchedLines). v.key) c.self.view_is ∙ c.requires.key) (c.in_ok-key.ensures r there) (c.start-start.ensures r there) (rw (to_z-of_z w64 c.start-start.result (search rules)) at c.find.ensures)) c.in-Some.is c.if-place-self.false c.index-self-place.is (ap (same_row (as_opened r)) c.index-self-place.is ∙ (sym (c.is_same-same.ensures r there) ∙ c.if-not-same.true)))).matched_is

pub returns-then-not-same-clause-left : goal.returns-then-not-same-clause-left
returns-then-not-same-clause-left g c = λ r there. (row_alone r (record { key = c.self.inside.place; lines = unmarked_lines c.self.inside.lines.now c.self.inside.marks.items }) c.args.self.now c.self.view_is (none_other r c.self.inside.lines.now c.self.inside.marks.items c.find.result c.in-Some.place c.index-self-place.result (only_there c.self.inside.place c.args.table.now.schema.key c.self.inside.lines.now c.self.inside.places r c.in_ok-key.key c.start-start.result c.find.result c.self.invariant.placed (ap (λ (v : UnmatchedLines). v.key) c.self.view_is ∙ c.requires.key) (c.in_ok-key.ensures r there) (c.start-start.ensures r there) (rw (to_z-of_z w64 c.start-start.result (search rules)) at c.find.ensures)) c.in-Some.is c.if-place-self.false c.index-self-place.is (ap (same_row (as_opened r)) c.index-self-place.is ∙ (sym (c.is_same-same.ensures r there) ∙ c.if-not-same.true)))).left

pub returns-clause-matched : goal.returns-clause-matched
returns-clause-matched g c = λ r there. (row_matched r c.self.inside.place c.self.inside.lines.now c.self.inside.marks.items c.find.result c.in-Some.place c.index-self-place.result c.args.self.now c.self.view_is (only_there c.self.inside.place c.args.table.now.schema.key c.self.inside.lines.now c.self.inside.places r c.in_ok-key.key c.start-start.result c.find.result c.self.invariant.placed (ap (λ (v : UnmatchedLines). v.key) c.self.view_is ∙ c.requires.key) (c.in_ok-key.ensures r there) (c.start-start.ensures r there) (rw (to_z-of_z w64 c.start-start.result (search rules)) at c.find.ensures)) c.in-Some.is c.if-place-self.false c.index-self-place.is (ap (same_row (as_opened r)) c.index-self-place.is ∙ (sym (c.is_same-same.ensures r there) ∙ c.if-not-same.false)) (let h = c.if-place-self.false in let n = c.self.invariant.number in omega arith) (sym c.if-index.false ∙ (c.index.ensures ∙ ap (get_or c.self.inside.marks.items c.in-Some.place) c.if-index.false))).matched_is

pub returns-clause-left : goal.returns-clause-left
returns-clause-left g c = λ r there. (row_matched r c.self.inside.place c.self.inside.lines.now c.self.inside.marks.items c.find.result c.in-Some.place c.index-self-place.result c.args.self.now c.self.view_is (only_there c.self.inside.place c.args.table.now.schema.key c.self.inside.lines.now c.self.inside.places r c.in_ok-key.key c.start-start.result c.find.result c.self.invariant.placed (ap (λ (v : UnmatchedLines). v.key) c.self.view_is ∙ c.requires.key) (c.in_ok-key.ensures r there) (c.start-start.ensures r there) (rw (to_z-of_z w64 c.start-start.result (search rules)) at c.find.ensures)) c.in-Some.is c.if-place-self.false c.index-self-place.is (ap (same_row (as_opened r)) c.index-self-place.is ∙ (sym (c.is_same-same.ensures r there) ∙ c.if-not-same.false)) (let h = c.if-place-self.false in let n = c.self.invariant.number in omega arith) (sym c.if-index.false ∙ (c.index.ensures ∙ ap (get_or c.self.inside.marks.items c.in-Some.place) c.if-index.false))).left
