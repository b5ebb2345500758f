-- The commits that are applied.
use Rattle.std.proofs.Common.{[], ◌∷◌, ◌++◌, ◌∙◌, subst, ap, Ok}
use Rattle.std.proofs.lemmas.Result.{err_from_is_err_and}
use Rattle.tl_journal.specs.Image.{IsDamagedOnlyAt}
use Rattle.tl_replay.specs.Applying.{IsAppliedTo}
use Rattle.tl_replay.proofs.ReadLemmas.{fewer_left, applied_next, all_applied, record_found, first_unfit, damaged_there, damaged_by}
use Rattle.tl_replay.proofs.replaying.apply_fitting.Goals as goal

pub record_behind-spelled-requires : goal.record_behind-spelled-requires
record_behind-spelled-requires g c = (c.in-Some.found.commit, record_found c.next.new.self c.in_ok-found.field-0 c.in-Some.found c.in-Some.is c.in_ok-found.ensures.recorded)

pub apply-requires-clause-spelled : goal.apply-requires-clause-spelled
apply-requires-clause-spelled g c = c.record_behind-spelled.ensures c.in-Some.found.commit (record_found c.next.new.self c.in_ok-found.field-0 c.in-Some.found c.in-Some.is c.in_ok-found.ensures.recorded)

pub apply-requires-clause-made : goal.apply-requires-clause-made
apply-requires-clause-made g c = (c.args.first, c.commits.invariant.applied.0, c.commits.invariant.applied.1.made)

pub returns-then-not-fits-clause-stops : goal.returns-then-not-fits-clause-stops
returns-then-not-fits-clause-stops g c =
    let makes = g.A.Applies.makes in
    let before = c.commits.invariant.applied.0 in
    let so_far = c.commits.invariant.applied.1 in (
      before,
      first_unfit makes c.args.limits.now c.args.first before c.commits.found_commits c.next.new.self c.commits.applied c.in-Ok.next c.in_ok-found.field-0 c.in-Some.found c.in-Some.is
          so_far c.in_ok-found.ensures.gate (c.in_ok-found.ensures.found before so_far.read)
          (subst (λ b. IsAppliedTo makes c.args.limits.now c.args.first before c.in-Some.found.commit c.in-Ok.next b) c.if-not-fits.true (c.in-Ok.ensures c.args.first before so_far.made)),
    )

pub commits-smaller-else-not-fits : goal.commits-smaller-else-not-fits
commits-smaller-else-not-fits g c =
    fewer_left c.commits.found_commits c.next.new.self c.commits.invariant.applied.0 c.in_ok-found.field-0 c.in-Some.found c.in-Some.is
    c.next.ensures.image c.in_ok-found.ensures.on (c.in_ok-found.ensures.found c.commits.invariant.applied.0 c.commits.invariant.applied.1.read)

pub commits-smaller-else-not-fits-2 : goal.commits-smaller-else-not-fits-2
commits-smaller-else-not-fits-2 g c =
    fewer_left c.commits.found_commits c.next.new.self c.commits.invariant.applied.0 c.in_ok-found.field-0 c.in-Some.found c.in-Some.is
    c.next.ensures.image c.in_ok-found.ensures.on (c.in_ok-found.ensures.found c.commits.invariant.applied.0 c.commits.invariant.applied.1.read)

pub commits-smaller : goal.commits-smaller
commits-smaller g c =
    fewer_left c.commits.found_commits c.next.new.self c.commits.invariant.applied.0 c.in_ok-found.field-0 c.in-Some.found c.in-Some.is
    c.next.ensures.image c.in_ok-found.ensures.on (c.in_ok-found.ensures.found c.commits.invariant.applied.0 c.commits.invariant.applied.1.read)

pub commits-preserved-else-not-fits : goal.commits-preserved-else-not-fits
commits-preserved-else-not-fits g c =
    let makes = g.A.Applies.makes in
    let before = c.commits.invariant.applied.0 in
    let so_far = c.commits.invariant.applied.1 in
    record {
      disk = c.next.ensures.disk ∙ c.commits.invariant.disk;
      image = c.next.ensures.image ∙ c.commits.invariant.image;
      applied = (
        before ++ c.in-Some.found.commit ∷ [],
        applied_next makes c.args.limits.now c.args.first before c.commits.found_commits c.next.new.self c.commits.applied c.in-Ok.next c.in_ok-found.field-0 c.in-Some.found c.in-Some.is
            so_far (c.in_ok-found.ensures.found before so_far.read)
            (subst (λ b. IsAppliedTo makes c.args.limits.now c.args.first before c.in-Some.found.commit c.in-Ok.next b) c.if-not-fits.false (c.in-Ok.ensures c.args.first before so_far.made)),
      );
    }

pub commits-preserved-else-not-fits-2 : goal.commits-preserved-else-not-fits-2
commits-preserved-else-not-fits-2 g c =
    let makes = g.A.Applies.makes in
    let before = c.commits.invariant.applied.0 in
    let so_far = c.commits.invariant.applied.1 in
    record {
      disk = c.next.ensures.disk ∙ c.commits.invariant.disk;
      image = c.next.ensures.image ∙ c.commits.invariant.image;
      applied = (
        before ++ c.in-Some.found.commit ∷ [],
        applied_next makes c.args.limits.now c.args.first before c.commits.found_commits c.next.new.self c.commits.applied c.in-Ok.next c.in_ok-found.field-0 c.in-Some.found c.in-Some.is
            so_far (c.in_ok-found.ensures.found before so_far.read)
            (subst (λ b. IsAppliedTo makes c.args.limits.now c.args.first before c.in-Some.found.commit c.in-Ok.next b) c.if-not-fits.false (c.in-Ok.ensures c.args.first before so_far.made)),
      );
    }

pub commits-preserved : goal.commits-preserved
commits-preserved g c =
    let makes = g.A.Applies.makes in
    let before = c.commits.invariant.applied.0 in
    let so_far = c.commits.invariant.applied.1 in
    record {
      disk = c.next.ensures.disk ∙ c.commits.invariant.disk;
      image = c.next.ensures.image ∙ c.commits.invariant.image;
      applied = (
        before ++ c.in-Some.found.commit ∷ [],
        applied_next makes c.args.limits.now c.args.first before c.commits.found_commits c.next.new.self c.commits.applied c.in-Ok.next c.in_ok-found.field-0 c.in-Some.found c.in-Some.is
            so_far (c.in_ok-found.ensures.found before so_far.read)
            (subst (λ b. IsAppliedTo makes c.args.limits.now c.args.first before c.in-Some.found.commit c.in-Ok.next b) c.if-not-fits.false (c.in-Ok.ensures c.args.first before so_far.made)),
      );
    }

pub returns-in_err-found-clause-damaged : goal.returns-in_err-found-clause-damaged
returns-in_err-found-clause-damaged g c =
    λ at e.
    let p = err_from_is_err_and c.from_residual.result c.from_residual.ensures.1 in
    damaged_there at c.commits.found_commits.image c.args.found_commits.now.image c.commits.invariant.image
    (damaged_by c.from_residual.result p.0 c.in_err-found.field-0.0 at (IsDamagedOnlyAt at c.commits.found_commits.image) p.1 p.2 e
    (c.in_err-found.ensures.damaged c.commits.invariant.applied.0 at c.commits.invariant.applied.1.read))

pub returns-clause-stops : goal.returns-clause-stops
returns-clause-stops g c =
    let none = ap (λ o. Ok o) c.in_default.is in
    let before = c.commits.invariant.applied.0 in
    let so_far = c.commits.invariant.applied.1 in
    let end = c.in_ok-found.ensures.end none in
    all_applied g.A.Applies.makes c.args.limits.now c.args.first before c.commits.found_commits c.next.new.self c.commits.applied so_far end.0 end.1
    (c.in_ok-found.ensures.all before so_far.read none)
