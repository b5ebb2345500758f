use Rattle.std.proofs.Common.{◌∙◌, ap, sym, subst, slice_index_or, pos, false}
use Rattle.tl_types.specs.declared.events.ValidEvent.{ValidEvent}
use Rattle.tl_ckpt.specs.Choices.{chosen}
use Rattle.tl_ckpt.specs.Runs.{sum_of, AllRise, lent, fronts, backs}
use Rattle.tl_ckpt.proofs.PieceLemmas.{fronts_rise}
use Rattle.tl_ckpt.proofs.ChoiceLemmas.{chosen_piece}
use Rattle.tl_ckpt.proofs.lists.merged_in_pieces.Goals as goal

pub merged_in_turn-requires : goal.merged_in_turn-requires
merged_in_turn-requires c =
    let d : ValidEvent = record { time = pos 0; opens = false; row = 0 } in
    let event = slice_index_or c.longest-longest.result.now c.pieces.at d in
    let before_is = ap lent c.deref-in-pieces-2.ensures.value ∙ c.in_ok-before.ensures.0 ∙ ap (λ rs. fronts event (lent rs)) c.deref-in-pieces.ensures.value in
    subst AllRise (sym before_is) (fronts_rise event (lent c.pieces.rests.items) c.pieces.invariant.rise)

pub pieces-preserved : goal.pieces-preserved
pieces-preserved c =
    let d : ValidEvent = record { time = pos 0; opens = false; row = 0 } in
    let event = slice_index_or c.longest-longest.result.now c.pieces.at d in
    let step = chosen_piece c.args.choice.now event (chosen c.args.choice.now (sum_of (lent c.args.runs.items))) c.pieces.out.items c.in_ok-piece.piece.items c.append.new.self.items (lent c.pieces.rests.items) (lent c.in_ok-before.before.items) (lent c.in_ok-before.behind.items) c.pieces.invariant.rise
    (c.in_ok-before.ensures.0 ∙ ap (λ rs. fronts event (lent rs)) c.deref-in-pieces.ensures.value)
    (c.in_ok-before.ensures.1 ∙ ap (λ rs. backs event (lent rs)) c.deref-in-pieces.ensures.value)
    (c.in_ok-piece.ensures ∙ ap (λ rs. chosen c.args.choice.now (sum_of (lent rs))) c.deref-in-pieces-2.ensures.value)
    c.in_ok-append.ensures.items c.pieces.invariant.all in
    record { all = step.0; rise = step.1 }
