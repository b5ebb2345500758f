use Rattle.std.proofs.Common.{◌≡◌, ◌∙◌, ap, arith, length, take, drop, ◌+◌, ◌++◌, subst, Ok, true}
use Rattle.tl_script.specs.InHand.{Refills}
use Rattle.tl_script.proofs.PendingLemmas.{refilled, whole_room}
use Rattle.tl_script.proofs.pending.Pending.refill.Goals as goal

pub returns-in-Ok-clause-refills : goal.returns-in-Ok-clause-refills
returns-in-Ok-clause-refills g c =
    let held = c.self.inside.room.items in
    let made = c.make_room.new.room.items in
    let room = c.read_behind.new.room in
    let place = c.self.inside.place in
    let end = c.self.inside.end in
    let old : c.args.self.now ≡ drop place (take end held) = cc in
    let same : take end room ≡ take end made = c.in-Ok.ensures.same ∙ ap (take end) c.deref_mut.ensures.value in
    let len : length room ≡ end + 65536 = c.in-Ok.ensures.len ∙ omega (arith, c.deref_mut.ensures.len, c.in_ok-make_room.ensures.len) in
    let all : room ≡ take c.make_room.new.room.len (room ++ drop (length room) made) = whole_room room (drop (length room) made) c.make_room.new.room.len (end + 65536) c.in_ok-make_room.ensures.len len in
    let refills = refilled c.args.self.now held made room place end c.in-Ok.number (g.S.Source.left c.args.source.now) (g.S.Source.left c.read_behind.new.source) old c.self.invariant.0 c.in_ok-make_room.ensures.same same len c.in-Ok.ensures.bound c.in-Ok.number-test.1 c.in-Ok.ensures.taken in
    subst (λ bytes. Refills c.args.self.now (g.S.Source.left c.args.source.now) (Ok true) (drop place (take (end + c.in-Ok.number) bytes)) (g.S.Source.left c.read_behind.new.source)) all refills
