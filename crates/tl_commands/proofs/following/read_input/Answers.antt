use Rattle.std.proofs.Common.{◌∙◌, ◌≤◌, refl, subst}
use Rattle.tl_commands.proofs.PacketLemmas.{at_end, front_more, long_piece, short_more, whole_front}
use Rattle.tl_commands.proofs.following.read_input.Goals as goal

pub returns-then-len-room-clause-err : goal.returns-then-len-room-clause-err
returns-then-len-room-clause-err g c =
    let left = g.S.Source.left in (
      refl,
      long_piece c.args.snapshot (left c.args.source.now) (left c.reading.source) (left c.next_piece.new.source) c.min-most.result c.reading.reader c.in-Ok.piece c.count-room.result c.len.result
          c.reading.invariant.front c.in-Ok.ensures.takes c.reading.invariant.short c.count-room.ensures c.len.ensures.number c.if-len-room.true,
      c.in-Ok.ensures.sure ∙ c.reading.invariant.sure,
    )

pub returns-then-is_last-clause-ok : goal.returns-then-is_last-clause-ok
returns-then-is_last-clause-ok g c =
    let left = g.S.Source.left in
    let most = c.min-most.result in
    whole_front c.args.snapshot (left c.args.source.now) (left c.next_piece.new.source) c.in-Ok-read.next
    (front_more c.args.snapshot (left c.args.source.now) (left c.reading.source) (left c.next_piece.new.source) most c.reading.reader c.in-Ok-read.next c.in-Ok.piece c.reading.invariant.front c.in-Ok.ensures.takes c.in-Ok-read.ensures.read)
    (short_more c.reading.reader c.in-Ok-read.next c.in-Ok.piece c.count-room.result c.len.result c.reading.invariant.short c.count-room.ensures c.len.ensures.number c.if-len-room.false c.in-Ok-read.ensures.count)
    (at_end most (left c.reading.source) (left c.next_piece.new.source) c.in-Ok.piece c.in-Ok.ensures.takes (subst (λ n. n ≤ most) c.len-in-reading.ensures.number c.if-is_last.true))

pub reading-preserved : goal.reading-preserved
reading-preserved g c =
    let left = g.S.Source.left in
    record {
      front = front_more c.args.snapshot (left c.args.source.now) (left c.reading.source) (left c.next_piece.new.source) c.min-most.result c.reading.reader c.in-Ok-read.next c.in-Ok.piece c.reading.invariant.front c.in-Ok.ensures.takes c.in-Ok-read.ensures.read;
      short = short_more c.reading.reader c.in-Ok-read.next c.in-Ok.piece c.count-room.result c.len.result c.reading.invariant.short c.count-room.ensures c.len.ensures.number c.if-len-room.false c.in-Ok-read.ensures.count;
      sure = c.in-Ok.ensures.sure ∙ c.reading.invariant.sure;
    }
