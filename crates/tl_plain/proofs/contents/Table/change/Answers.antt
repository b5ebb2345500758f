use Rattle.std.proofs.Common.{ap}
use Rattle.tl_types.specs.Limits.{standard_limits}
use Rattle.tl_types.specs.Plain as plain
use Rattle.tl_plain.proofs.Places.{closes_within, few_after}
use Rattle.tl_plain.proofs.contents.Table.change.Goals as goal

pub change_all-requires : goal.change_all-requires
change_all-requires c =
    closes_within standard_limits c.args.change.now c.args.self.now c.self.inside.rows.items c.requires (ap (λ (t : plain.Table). t.rows) c.self.view_is)

pub invariant_of-self-2 : goal.invariant_of-self-2
invariant_of-self-2 c =
    let rows_are = ap (λ (t : plain.Table). t.rows) c.self.view_is in
    few_after c.args.version c.args.change.now c.args.self.now c.change_all.new.rows.items c.requires (rw (← rows_are) c.in_ok-change_all.ensures.ok)
