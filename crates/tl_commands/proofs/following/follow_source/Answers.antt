use Rattle.std.proofs.Common.{subst}
use Rattle.tl_types.specs.Entries.{commits_of}
use Rattle.tl_types.specs.Limits.{standard_limits}
use Rattle.tl_follow.specs.Inputs.{IsInputFault}
use Rattle.tl_commands.proofs.PacketLemmas.{input_faulty}
use Rattle.tl_commands.proofs.following.follow_source.Goals as goal

pub returns-in-Ok-finish-clause-next : goal.returns-in-Ok-finish-clause-next
returns-in-Ok-finish-clause-next g c =
    let read = c.in-Ok.ensures.ok in
    c.in-Ok-finish.ensures.next standard_limits c.args.snapshot read.0 read.1

pub returns-in-Err-BadPacket-clause-err : goal.returns-in-Err-BadPacket-clause-err
returns-in-Err-BadPacket-clause-err g c =
    let source = g.S.Source in
    let read = c.in-Ok.ensures.ok in
    let opening = commits_of c.args.snapshot in
    input_faulty opening (source.left c.args.source.now) (source.left c.read_input.new.source) read.0 (source.faults c.args.source.now) (source.faults c.read_input.new.source) c.in-Err-BadPacket.at read.2
    (subst (IsInputFault standard_limits opening read.0) c.in-Err-BadPacket.field-0-is (c.in-Err-BadPacket.ensures.bad standard_limits c.args.snapshot read.0 read.1)) c.in-Ok.ensures.sure
