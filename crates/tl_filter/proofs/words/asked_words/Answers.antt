use Rattle.std.proofs.Common.{◌≡◌, ℕ, ◌+◌, ◌*◌, ◌<◌, length, ◌∙◌, arith}
use Rattle.std.proofs.lemmas.List.{length-set}
use Rattle.tl_lanes.specs.Masks.{is_bit}
use Rattle.tl_filter.specs.Words.{is_asked, word_cost}
use Rattle.tl_filter.proofs.WordLemmas.{each_more}
use Rattle.tl_filter.proofs.words.asked_words.Goals as goal

pub loop-i-preserved : goal.loop-i-preserved
loop-i-preserved g c =
    let there : c.loop-i.i < length c.loop-i.words = let e = c.loop-i.invariant.long in omega arith in
    record {
      long = length-set c.loop-i.words c.loop-i.i c.asked_word.result ∙ c.loop-i.invariant.long;
      each = each_more (λ j w. (k : ℕ) → k < 64 → is_bit w k ≡ is_asked c.args.whole c.args.set.now (64 * (c.args.first + j) + k))
          c.loop-i.words c.loop-i.i c.asked_word.result there c.loop-i.invariant.each c.asked_word.ensures.bits;
      steps = let e = c.asked_word.ensures.steps in let f = c.loop-i.invariant.steps in let m : word_cost c.args.whole * (c.loop-i.i + 1) ≡ word_cost c.args.whole * c.loop-i.i + word_cost c.args.whole = grind arith in omega arith;
    }
