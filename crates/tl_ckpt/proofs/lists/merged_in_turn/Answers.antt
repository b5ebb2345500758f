use Rattle.std.proofs.Common.{arith, ◌<◌, length, List, []}
use Rattle.std.specs.Borrow.{Bor}
use Rattle.tl_types.specs.declared.events.ValidEvent.{ValidEvent}
use Rattle.tl_ckpt.specs.Choices.{chosen}
use Rattle.tl_ckpt.specs.Runs.{sum_of, lent}
use Rattle.tl_ckpt.proofs.PieceLemmas.{lent_rises, lent_length}
use Rattle.tl_ckpt.proofs.ChoiceLemmas.{chosen_taken, chosen_behind}
use Rattle.tl_ckpt.proofs.lists.merged_in_turn.Goals as goal

pub chosen_with-requires-clause-run : goal.chosen_with-requires-clause-run
chosen_with-requires-clause-run c =
    let here : c.runs.i < length c.args.runs.now = omega arith in
    lent_rises c.args.runs.now c.runs.i (record { ref_ptr = (0, 0); now = [] }) c.requires here

pub runs-preserved : goal.runs-preserved
runs-preserved c =
    let here : c.runs.i < length c.args.runs.now = omega arith in
    let d : Bor (List ValidEvent) = record { ref_ptr = (0, 0); now = [] } in
    let was = c.runs.invariant in
    let step = chosen_taken c.args.choice.now c.args.runs.now (chosen c.args.choice.now (sum_of (lent c.args.runs.now))) c.runs.out.items c.in_ok-out.out.items c.runs.i d c.requires was.rises here c.in_ok-out.ensures was.sum in
    record { within = omega arith; rises = step.1; sum = step.0 }

pub returns : goal.returns
returns c =
    let all = lent_length c.args.runs.now in
    chosen_behind c.args.choice.now (lent c.args.runs.now) (chosen c.args.choice.now (sum_of (lent c.args.runs.now))) c.runs.out.items c.runs.i c.runs.invariant.rises (omega arith) c.runs.invariant.sum
