use Rattle.std.proofs.Common.{◌∙◌, [], ◌∷◌}
use Rattle.tl_group.proofs.BodyLemmas.{waits_more}
use Rattle.tl_group.proofs.bodies.GroupBody.put_commit.Goals as goal

pub returns-clause-body : goal.returns-clause-body
returns-clause-body g c = λ group is.
    let spelled = c.as_slice-2.ensures ∙ c.in_ok-spelled.ensures.record in
    let commit = c.args.commit.now in (
      waits_more group commit is.0 c.in_ok-spelled.ensures.fits,
      c.put_record.ensures.body group commit is.0 (c.in_ok-spelled.ensures.fits, spelled) (c.take_room.ensures.bytes ∙ is.1),
    )
