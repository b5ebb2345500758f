use Rattle.std.proofs.Common.{◌*◌, map, take, drop, ap, ◌∙◌, w64, of_z, to_z}
use Rattle.std.specs.Prelude.{ℤ}
use Rattle.std.proofs.Math.Facts.{to_z-of_z}
use Rattle.tl_lanes.specs.Masks.{passes}
use Rattle.tl_lanes.proofs.LaneMasks.{bits_of_word}
use Rattle.tl_column.specs.Masks.{lane_cmp}
use Rattle.tl_column.proofs.WordLemmas.{passing_word}
use Rattle.tl_column.proofs.int_column.IntColumn.mask_word.Goals as goal

pub returns-clause-word : goal.returns-clause-word
returns-clause-word c =
    let part = c.items_of_word.ensures.items ∙ ap (λ t. take 64 (drop (64 * c.args.i) t)) c.self.view_is in
    passing_word (lane_cmp c.args.cmp) c.lane_cmp.result c.args.bound (to_z w64 (of_z w64 c.args.bound)) c.args.self.now c.items_of_word.result.now c.args.i c.compare_word.result c.lane_cmp.ensures (to_z-of_z c.ranges.bound) part c.compare_word.ensures.word

pub returns-clause-bits : goal.returns-clause-bits
returns-clause-bits c =
    let part = c.items_of_word.ensures.items ∙ ap (λ t. take 64 (drop (64 * c.args.i) t)) c.self.view_is in
    bits_of_word (map (λ (x : ℤ). passes (lane_cmp c.args.cmp) x c.args.bound) c.args.self.now) c.args.i c.compare_word.result
    (passing_word (lane_cmp c.args.cmp) c.lane_cmp.result c.args.bound (to_z w64 (of_z w64 c.args.bound)) c.args.self.now c.items_of_word.result.now c.args.i c.compare_word.result c.lane_cmp.ensures (to_z-of_z c.ranges.bound) part c.compare_word.ensures.word)
