use Rattle.std.proofs.Common.{◌∙◌, inl, inr, refl}
use Rattle.tl_group.proofs.WaitLemmas.{given_back_at_once}
use Rattle.tl_commands.proofs.FollowEndLemmas.{extended_by}
use Rattle.tl_commands.proofs.following.extend.Goals as goal

pub returns-in_default : goal.returns-in_default
returns-in_default g c =
    let disks = g.D.Disk in
    inl (refl, given_back_at_once disks.reads disks.may_leave disks.faults c.args.group c.into_disk.result c.into_disk.ensures, refl, refl)

pub returns-in-Ok-extend : goal.returns-in-Ok-extend
returns-in-Ok-extend g c =
    inr (extended_by g.K.Sink g.D.Disk c.args.group c.without_keys.result c.in-Ok-extend.group c.args.followed.commits c.as_slice.result.now c.args.followed.snapshot c.as_bytes.result.now c.args.sink.now c.append.new.sink c.append.result.disk c.append.result.status
    c.without_keys.ensures c.as_slice.ensures c.requires.next c.in-Ok-extend.ensures.limits c.in-Ok-extend.ensures.ok c.in-Ok-extend.ensures.journal.count_same (λ s. rw c.in-Ok-extend.is at (c.extend.ensures.stands s))
    (c.as_bytes.ensures.value ∙ c.in-Ok.ensures) c.append.ensures)
