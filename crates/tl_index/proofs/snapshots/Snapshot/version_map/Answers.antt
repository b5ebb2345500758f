-- What is kept of the table.
use Rattle.std.proofs.Common.{ap}
use Rattle.tl_index.specs.declared.timelines.Timeline.{Timeline}
use Rattle.tl_index.proofs.ReadLemmas.{kept_there, timeline_read, formed_kept, order_kept}
use Rattle.tl_index.proofs.snapshots.Snapshot.version_map.Goals as goal

pub at-requires : goal.at-requires
at-requires c =
    kept_there c.args.self.now c.self.inside.store c.self.inside.log c.self.inside.broken c.self.inside.timelines c.get.result.now c.args.table
    c.self.view_is c.self.invariant.timelines_are c.get.ensures c.requires

pub returns-clause-map : goal.returns-clause-map
returns-clause-map c =
    ap (λ (x : Timeline). x.ends) (timeline_read c.args.self.now c.self.inside.store c.self.inside.log c.self.inside.broken c.self.inside.timelines c.get.result.now c.args.table c.at.result.now
    c.self.view_is c.self.invariant.timelines_are c.get.ensures c.requires c.at.ensures)

pub returns-clause-formed : goal.returns-clause-formed
returns-clause-formed c =
    formed_kept c.args.self.now c.self.inside.store c.self.inside.log c.self.inside.broken c.self.inside.timelines c.self.inside.marks c.args.table c.self.invariant c.self.view_is

pub returns-clause-order : goal.returns-clause-order
returns-clause-order c =
    order_kept c.args.self.now c.self.inside.store c.self.inside.log c.self.inside.broken c.self.inside.timelines c.self.inside.marks c.args.table c.self.invariant c.self.view_is
