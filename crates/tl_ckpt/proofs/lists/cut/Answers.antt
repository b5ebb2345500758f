use Rattle.std.proofs.Common.{arith, ◌<◌, ◌∙◌, length, drop, take, ap, slice_index_or, List, []}
use Rattle.std.specs.Borrow.{Bor}
use Rattle.tl_types.specs.declared.events.ValidEvent.{ValidEvent}
use Rattle.tl_ckpt.proofs.PieceLemmas.{lent_rises, front_more, back_more}
use Rattle.tl_ckpt.proofs.lists.cut.Goals as goal

pub lead-requires : goal.lead-requires
lead-requires c =
    let here : c.runs.i < length c.args.runs.now = omega arith in
    lent_rises c.args.runs.now c.runs.i (record { ref_ptr = (0, 0); now = [] }) c.requires here

pub runs-preserved : goal.runs-preserved
runs-preserved c =
    let here : c.runs.i < length c.args.runs.now = omega arith in
    let d : Bor (List ValidEvent) = record { ref_ptr = (0, 0); now = [] } in
    let was = c.runs.invariant in
    record {
      within = omega arith;
      before = front_more c.args.event.now c.args.runs.now c.runs.before.items c.push.new.self.items c.split_at.result.0 c.runs.i d here c.in_ok-push.ensures.items (c.split_at.ensures.front ∙ ap (λ n. take n (slice_index_or c.args.runs.now c.runs.i d).now) c.lead.ensures.count) was.before;
      behind = back_more c.args.event.now c.args.runs.now c.runs.behind.items c.push-in-runs.new.self.items c.split_at.result.1 c.runs.i d here c.in_ok-push-2.ensures.items (c.split_at.ensures.back ∙ ap (λ n. drop n (slice_index_or c.args.runs.now c.runs.i d).now) c.lead.ensures.count) was.behind;
    }
