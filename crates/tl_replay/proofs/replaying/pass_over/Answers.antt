-- The commits that are passed over.
use Rattle.std.proofs.Common.{refl, ◌∙◌, subst, ap, Ok, ◌++◌}
use Rattle.std.proofs.lemmas.Result.{err_from_is_err_and}
use Rattle.tl_journal.specs.Image.{ImageStandsOnlyFor, IsDamagedOnlyAt}
use Rattle.tl_replay.proofs.ReadLemmas.{read_start, read_next, fewer_left, damaged_there, damaged_by}
use Rattle.tl_replay.proofs.replaying.pass_over.Goals as goal

pub commits-init : goal.commits-init
commits-init g c = record { disk = refl; image = refl; read = λ found r. read_start c.args.found_commits.now found r }

pub returns-in_err-found-clause-damaged : goal.returns-in_err-found-clause-damaged
returns-in_err-found-clause-damaged g c =
    λ at e.
    let l = c.commits.invariant.read c.requires.0 c.requires.1 in
    let p = err_from_is_err_and c.from_residual.result c.from_residual.ensures.1 in
    damaged_there at c.commits.found_commits.image c.args.found_commits.now.image c.commits.invariant.image
    (damaged_by c.from_residual.result p.0 c.in_err-found.field-0.0 at (IsDamagedOnlyAt at c.commits.found_commits.image) p.1 p.2 e
    (c.in_err-found.ensures.damaged (c.requires.0 ++ l.0) at l.1))

pub commits-smaller-in-Some : goal.commits-smaller-in-Some
commits-smaller-in-Some g c =
    let l = c.commits.invariant.read c.requires.0 c.requires.1 in
    fewer_left c.commits.found_commits c.next.new.self (c.requires.0 ++ l.0) c.in_ok-found.field-0 c.in-Some.found c.in-Some.is
    c.next.ensures.image c.in_ok-found.ensures.on (c.in_ok-found.ensures.found (c.requires.0 ++ l.0) l.1)

pub commits-smaller-in-Some-2 : goal.commits-smaller-in-Some-2
commits-smaller-in-Some-2 g c =
    let l = c.commits.invariant.read c.requires.0 c.requires.1 in
    fewer_left c.commits.found_commits c.next.new.self (c.requires.0 ++ l.0) c.in_ok-found.field-0 c.in-Some.found c.in-Some.is
    c.next.ensures.image c.in_ok-found.ensures.on (c.in_ok-found.ensures.found (c.requires.0 ++ l.0) l.1)

pub commits-smaller : goal.commits-smaller
commits-smaller g c =
    let l = c.commits.invariant.read c.requires.0 c.requires.1 in
    fewer_left c.commits.found_commits c.next.new.self (c.requires.0 ++ l.0) c.in_ok-found.field-0 c.in-Some.found c.in-Some.is
    c.next.ensures.image c.in_ok-found.ensures.on (c.in_ok-found.ensures.found (c.requires.0 ++ l.0) l.1)

pub commits-preserved-in-Some : goal.commits-preserved-in-Some
commits-preserved-in-Some g c =
    record {
      disk = c.next.ensures.disk ∙ c.commits.invariant.disk;
      image = c.next.ensures.image ∙ c.commits.invariant.image;
      read = λ found r.
          let l = c.commits.invariant.read found r in
          read_next c.next.new.self found l.0 c.in_ok-found.field-0 c.in-Some.found c.in-Some.is (c.in_ok-found.ensures.found (found ++ l.0) l.1);
    }

pub commits-preserved-in-Some-2 : goal.commits-preserved-in-Some-2
commits-preserved-in-Some-2 g c =
    record {
      disk = c.next.ensures.disk ∙ c.commits.invariant.disk;
      image = c.next.ensures.image ∙ c.commits.invariant.image;
      read = λ found r.
          let l = c.commits.invariant.read found r in
          read_next c.next.new.self found l.0 c.in_ok-found.field-0 c.in-Some.found c.in-Some.is (c.in_ok-found.ensures.found (found ++ l.0) l.1);
    }

pub commits-preserved : goal.commits-preserved
commits-preserved g c =
    record {
      disk = c.next.ensures.disk ∙ c.commits.invariant.disk;
      image = c.next.ensures.image ∙ c.commits.invariant.image;
      read = λ found r.
          let l = c.commits.invariant.read found r in
          read_next c.next.new.self found l.0 c.in_ok-found.field-0 c.in-Some.found c.in-Some.is (c.in_ok-found.ensures.found (found ++ l.0) l.1);
    }

pub returns-clause-whole : goal.returns-clause-whole
returns-clause-whole g c =
    λ found r.
    let l = c.commits.invariant.read found r in
    let none = c.in_default.is in
    (l.0, subst (λ b. ImageStandsOnlyFor (found ++ l.0) b) c.commits.invariant.image (c.in_ok-found.ensures.all (found ++ l.0) l.1 (ap (λ o. Ok o) none)))
