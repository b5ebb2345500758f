use Rattle.std.proofs.Common.{◌∙◌, ◌+◌, ap, drop, refl, sym}
use Rattle.tl_follow.proofs.ReaderLemmas.{counts_on, keeps_rest, reads_on}
use Rattle.tl_follow.proofs.inputs.PacketReader.read.Goals as goal

pub returns-then-bad-clause-read : goal.returns-then-bad-clause-read
returns-then-bad-clause-read c =
    let self = c.args.self in
    counts_on c.args.piece self (record { follower = self.follower; end = self.end; rest = self.rest; count = self.count + c.len.result; bad = self.bad })
    c.if-bad.true c.if-bad.true refl refl refl (ap (λ n. self.count + n) c.len.ensures.number)

pub returns-clause-read : goal.returns-clause-read
returns-clause-read c =
    let self = c.args.self in
    let read = c.in_ok-read.read in
    let keeps = keeps_rest read.bad (drop read.end c.as_slice.result.now) c.rest_behind.result.items (λ kept. c.rest_behind.ensures.kept kept ∙ ap (drop read.end) (sym c.as_slice.ensures.value)) c.rest_behind.ensures.gone in
    reads_on c.args.piece c.as_slice.result.now read.end self
    (record { follower = c.take_packets.new.follower; end = self.end + read.end; rest = c.rest_behind.result; count = self.count + c.len.result; bad = read.bad })
    c.if-bad.false (c.as_slice.ensures.value ∙ c.in_ok-bytes.ensures) c.in_ok-read.ensures.takes c.in_ok-read.ensures.rest keeps refl
    (ap (λ n. self.count + n) c.len.ensures.number)
