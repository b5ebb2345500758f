use Rattle.std.proofs.Common.{None, refl, arith, subst, w64}
use Rattle.std.proofs.lemmas.Int.{to_z-of_z}
use Rattle.tl_watch.specs.Groups.{LessensGroup}
use Rattle.tl_agg.proofs.CellLemmas.{changed_at}
use Rattle.tl_watch.proofs.PlaceLemmas.{leaves_none}
use Rattle.tl_watch.proofs.groups.leave_in.Goals as goal

pub returns : goal.returns
returns c =
    leaves_none c.args.value.now c.args.by.now.entries c.lessen.new.by.entries c.remove.new.self.entries c.args.number c.lessen.result (subst (λ n. LessensGroup c.args.value.now c.args.by.now.entries c.lessen.new.by.entries n c.lessen.result) (to_z-of_z w64 c.args.number c.ranges.number) c.lessen.ensures) (let f = c.if-lessen-gt0.false in omega arith)
    (changed_at c.args.value.now c.args.value.now None c.lessen.new.by.entries c.remove.new.self.entries c.lessen.new.by.entries refl c.remove.ensures.updates.0 refl)
