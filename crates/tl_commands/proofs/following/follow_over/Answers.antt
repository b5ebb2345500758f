use Rattle.tl_commands.proofs.FollowEndLemmas.{extended, not_extended}
use Rattle.tl_commands.proofs.following.follow_over.Goals as goal

pub returns-in-Ok : goal.returns-in-Ok
returns-in-Ok g c = λ begun attached.
    let source = g.S.Source in
    extended g.K.Sink g.D.Disk begun c.args.group (source.left c.args.source.now) (source.left c.take_input.new.source) (source.faults c.args.source.now) (source.faults c.take_input.new.source) c.args.sink.now c.extend.new.sink c.extend.result.disk c.extend.result.status attached
    c.in-Ok.followed.commits c.in-Ok.ensures.ok c.in-Ok.ensures.sure c.extend.ensures

pub returns-in-Err : goal.returns-in-Err
returns-in-Err g c = λ begun attached.
    let source = g.S.Source in
    not_extended g.K.Sink g.D.Disk begun c.args.group (source.left c.args.source.now) (source.left c.take_input.new.source) (source.faults c.args.source.now) (source.faults c.take_input.new.source) c.args.sink.now c.close_without_commits.new.sink c.into_disk.result c.close_without_commits.result attached
    c.in-Err.ended c.in-Err.ensures.err c.into_disk.ensures c.close_without_commits.ensures.memory c.close_without_commits.ensures.line
