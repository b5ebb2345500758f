use Rattle.std.proofs.Common.{subst}
use Rattle.tl_running.specs.Lasting.{LastingRows, Takes}
use Rattle.tl_running.proofs.LastingLemmas.{takes_pushed}
use Rattle.tl_running.proofs.lasting_heap.LastingHeap.push.Goals as goal

pub returns : goal.returns
returns c =
    let new : LastingRows = record { rows = c.push.new.self.data.items; cover = c.later-self-inside.result } in
    subst (λ (k : LastingRows). Takes k new c.args.row) c.self.view_is
    (takes_pushed (record { rows = c.self.inside.rows.data.items; cover = c.self.inside.cover }) new c.args.row c.in_ok-push.ensures.permutation c.later-self-inside.ensures)
