use Rattle.std.proofs.Common.{rules, ◌≡◌, ◌∙◌, length}
use Rattle.tl_group.specs.Keeping.{waiting_commits}
use Rattle.tl_group.specs.Plain as plain
use Rattle.tl_group.proofs.BodyLemmas.{none_waits, waiting_body}
use Rattle.tl_group.proofs.WaitLemmas.{none_left, none_read, none_stand, all_left, all_stand}
use Rattle.tl_group.proofs.waiting.Waiting.finish.Goals as goal

pub returns-then-is_empty-clause-all : goal.returns-then-is_empty-clause-all
returns-then-is_empty-clause-all g c =
    let none : length c.self.inside.body.bytes ≡ 0 = search rules in
    let group : plain.Group g.row.D.Denot = record { journal = c.self.inside.journal; entries = c.self.inside.snapshot; first = c.self.inside.first; limits = c.self.inside.limits } in
    let waits = none_waits (waiting_commits group) c.self.inside.body.bytes c.self.invariant.written c.self.invariant.body_is none in
    rw (← c.self.view_is) (λ s done. none_left g.D.Disk.reads g.D.Disk.may_leave group c.into_disk.result c.into_disk.ensures waits s)

pub returns-then-is_empty-clause-reads : goal.returns-then-is_empty-clause-reads
returns-then-is_empty-clause-reads g c =
    let group : plain.Group g.row.D.Denot = record { journal = c.self.inside.journal; entries = c.self.inside.snapshot; first = c.self.inside.first; limits = c.self.inside.limits } in
    rw (← c.self.view_is) (none_read g.D.Disk.reads g.D.Disk.may_leave group c.into_disk.result c.into_disk.ensures)

pub returns-clause-any_moment : goal.returns-clause-any_moment
returns-clause-any_moment g c =
    let some : (length c.into_bytes-body.result ≡ 0 → ⊥) = search rules in
    let is = waiting_body _ c.into_bytes-body.result c.self.invariant.written (c.into_bytes-body.ensures.bytes ∙ c.self.invariant.body_is) some in
    rw (← c.self.view_is, c.into_disk-2.ensures) (λ s. c.append-faults.ensures.any_moment _ _ s is)

pub returns-clause-all : goal.returns-clause-all
returns-clause-all g c =
    let some : (length c.into_bytes-body.result ≡ 0 → ⊥) = search rules in
    let is = waiting_body _ c.into_bytes-body.result c.self.invariant.written (c.into_bytes-body.ensures.bytes ∙ c.self.invariant.body_is) some in
    let group : plain.Group g.row.D.Denot = record { journal = c.self.inside.journal; entries = c.self.inside.snapshot; first = c.self.inside.first; limits = c.self.inside.limits } in
    rw (← c.self.view_is) (λ s done. all_left g.D.Disk.reads g.D.Disk.may_leave group c.append-faults.new.journal c.into_disk-2.result c.into_disk-2.ensures (c.append-faults.ensures.stored _ _ s is done))

pub returns-clause-now : goal.returns-clause-now
returns-clause-now g c =
    let some : (length c.into_bytes-body.result ≡ 0 → ⊥) = search rules in
    let is = waiting_body _ c.into_bytes-body.result c.self.invariant.written (c.into_bytes-body.ensures.bytes ∙ c.self.invariant.body_is) some in
    rw (← c.self.view_is, c.into_disk-2.ensures) (λ s. c.append-faults.ensures.now _ _ s is)

pub returns-clause-reads : goal.returns-clause-reads
returns-clause-reads g c =
    let some : (length c.into_bytes-body.result ≡ 0 → ⊥) = search rules in
    let is = waiting_body _ c.into_bytes-body.result c.self.invariant.written (c.into_bytes-body.ensures.bytes ∙ c.self.invariant.body_is) some in
    rw (← c.self.view_is, c.into_disk-2.ensures) (λ s. c.append-faults.ensures.reads _ _ s is)

pub returns-then-is_empty-clause-stands : goal.returns-then-is_empty-clause-stands
returns-then-is_empty-clause-stands g c =
    let none : length c.self.inside.body.bytes ≡ 0 = search rules in
    let group : plain.Group g.row.D.Denot = record { journal = c.self.inside.journal; entries = c.self.inside.snapshot; first = c.self.inside.first; limits = c.self.inside.limits } in
    let waits = none_waits (waiting_commits group) c.self.inside.body.bytes c.self.invariant.written c.self.invariant.body_is none in
    rw (← c.self.view_is) (λ s done. none_stand g.D.Disk.reads g.D.Disk.may_leave group c.into_disk.result c.into_disk.ensures waits s)

pub returns-clause-stands : goal.returns-clause-stands
returns-clause-stands g c =
    let some : (length c.into_bytes-body.result ≡ 0 → ⊥) = search rules in
    let is = waiting_body _ c.into_bytes-body.result c.self.invariant.written (c.into_bytes-body.ensures.bytes ∙ c.self.invariant.body_is) some in
    let group : plain.Group g.row.D.Denot = record { journal = c.self.inside.journal; entries = c.self.inside.snapshot; first = c.self.inside.first; limits = c.self.inside.limits } in
    rw (← c.self.view_is) (λ s done. all_stand g.D.Disk.reads g.D.Disk.may_leave group c.append-faults.new.journal c.into_disk-2.result c.into_disk-2.ensures (c.append-faults.ensures.stored _ _ s is done))
