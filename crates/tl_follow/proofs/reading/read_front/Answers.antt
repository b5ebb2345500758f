use Rattle.std.proofs.Common.{◌≡◌, ◌++◌, IfOk, inl, drop, subst, sym}
use Rattle.tl_record.specs.Spelling.{number}
use Rattle.tl_follow.specs.Packets.{IsFront, IsNoPacket, MayBegin, NeverBegins}
use Rattle.tl_follow.proofs.PacketsRead.{few_begin_none, front_by, never_by_version}
use Rattle.tl_follow.proofs.reading.read_front.Goals as goal

pub returns-then-behind-lt4 : goal.returns-then-behind-lt4
returns-then-behind-lt4 c =
    (subst IsNoPacket c.split_at.ensures.back (few_begin_none c.split_at.result.1.now c.if-behind-lt4.true), subst MayBegin c.split_at.ensures.back (inl c.if-behind-lt4.true))

pub returns-in_default : goal.returns-in_default
returns-in_default c = subst NeverBegins c.split_at.ensures.back (never_by_version c.split_at.result.1.now c.if-behind-lt4.false c.in_default.ensures.none)

pub returns : goal.returns
returns c =
    let front = subst (λ l. l ≡ number c.in-Some.version ++ drop 4 l) c.split_at.ensures.back c.in-Some.ensures.front in
    subst (λ r. IfOk r (IsFront c.args.bytes.now c.args.at)) (sym c.front_read.ensures)
    (front_by c.args.at c.args.bytes.now c.in-Some.version c.in-Some.ensures.range front c.decode.result c.decode.ensures.ok c.decode.ensures.end c.decode.ensures.within c.decode.ensures.short c.decode.ensures.bad c.decode.ensures.place c.decode.ensures.found)
