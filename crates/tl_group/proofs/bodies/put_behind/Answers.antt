use Rattle.std.proofs.Common.{rules, ◌≡◌, ◌++◌}
use Rattle.tl_group.proofs.BodyLemmas.{record_more}
use Rattle.tl_group.proofs.bodies.put_behind.Goals as goal

pub returns-clause-body : goal.returns-clause-body
returns-clause-body c group commit waits is body =
    let more : c.extend_from_slice.new.self.items ≡ c.open_last.new.bytes.items ++ c.args.spelled.now = search rules in
    record_more c.args.bytes.now.items c.open_last.new.bytes.items c.args.spelled.now c.extend_from_slice.new.self.items c.open_last.ensures.opened c.open_last.ensures.none more group commit waits is body
