use Rattle.std.proofs.Common.{length, arith, ◌∙◌, refl}
use Rattle.std.specs.Prelude.{bit_and}
use Rattle.tl_exec.proofs.SetLemmas.{both_small, met_more, kept_more, met_all}
use Rattle.tl_exec.proofs.sets.meet.Goals as goal

pub put_word-requires-clause-none_past : goal.put_word-requires-clause-none_past
put_word-requires-clause-none_past g c =
    both_small c.loop-i.set c.loop-i.i c.word.result c.word-in-loop-i.result (length c.loop-i.set) c.word.ensures.value refl

pub loop-i-preserved : goal.loop-i-preserved
loop-i-preserved g c =
    let first = c.args.set.now in
    let old = c.loop-i.set in
    let new = c.put_word.new.self in
    let one = c.word.result in
    let two = c.word-in-loop-i.result in
    record {
      rows = c.put_word.ensures.rows ∙ c.loop-i.invariant.rows;
      met = met_more first old new c.args.other.now c.loop-i.i one two c.word.ensures.bits c.word-in-loop-i.ensures.bits c.put_word.ensures.members
          c.loop-i.invariant.met c.loop-i.invariant.kept;
      kept = kept_more first old new c.loop-i.i (bit_and one two) c.put_word.ensures.members c.loop-i.invariant.kept;
      steps = let d = c.loop-i.invariant.steps in let e = c.word.ensures.steps in let f = c.word-in-loop-i.ensures.steps in omega arith;
    }

pub returns-clause-members : goal.returns-clause-members
returns-clause-members g c =
    let e = c.rows.ensures in
    met_all c.args.set.now c.loop-i.set c.args.other.now c.loop-i.i c.loop-i.invariant.rows (omega arith) c.loop-i.invariant.met
